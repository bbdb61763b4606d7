use Rattle.std.proofs.Common.{◌≡◌}
use Rattle.borsh_values.specs.Cursor.{IsCursor, steps_left}
use Rattle.borsh_values.proofs.fronts.front_of.Given as goal

abbrev pub invariant-loop-cursor : goal.invariant-loop-cursor
invariant-loop-cursor l = record {
  cursor : IsCursor l.cursor;
  plan : l.cursor.plan.now ≡ l.plan;
  bytes : l.cursor.bytes.now ≡ l.bytes;
}

abbrev pub decreases-loop-cursor : goal.decreases-loop-cursor
decreases-loop-cursor l = steps_left l.cursor
