use Rattle.std.proofs.Common.{◌≡◌}
use Rattle.borsh_values.specs.Cursor.{steps_left}
use Rattle.borsh_values.proofs.Stepping.{NoneYet}
use Rattle.borsh_values.proofs.preorder.Preorder.next.Given as goal

abbrev pub invariant-loop-at : goal.invariant-loop-at
invariant-loop-at l = record { none : NoneYet l.fn.self.cursor l.self.cursor; path : l.self.path ≡ l.fn.self.path }

abbrev pub decreases-loop-at : goal.decreases-loop-at
decreases-loop-at l = steps_left l.self.cursor
