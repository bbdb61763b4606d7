use Rattle.std.proofs.Common.{length}
use Rattle.borsh_source.proofs.items.+push_beside.Given as goal

abbrev pub decreases-push_beside : goal.decreases-push_beside
decreases-push_beside l = length l.names.now
