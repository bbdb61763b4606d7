use Rattle.std.proofs.Common.{length}
use Rattle.borsh_source.proofs.uses.+given_as.Given as goal

abbrev pub decreases-given_as : goal.decreases-given_as
decreases-given_as l = length l.parameters.now
