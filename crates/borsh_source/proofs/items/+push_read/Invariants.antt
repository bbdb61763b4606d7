use Rattle.std.proofs.Common.{length}
use Rattle.borsh_source.proofs.items.+push_read.Given as goal

abbrev pub decreases-push_read : goal.decreases-push_read
decreases-push_read l = length l.parameters.now
