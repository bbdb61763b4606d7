use Rattle.std.proofs.Common.{length}
use Rattle.borsh_source.proofs.forms.+push_following.Given as goal

abbrev pub decreases-push_following : goal.decreases-push_following
decreases-push_following l = length l.names.now
