use Rattle.std.proofs.Common.{◌-◌, ◌≤◌}
use Rattle.core.specs.Mem.Slots.{SamePlaces}
use Rattle.core.specs.Mem.Slots.Ownership.{Filled}
use Rattle.borsh_arrays.proofs.row.drop_first.Given as goal

abbrev pub invariant-loop-next : goal.invariant-loop-next
invariant-loop-next g l = record {
  same_places : SamePlaces l.fn.row l.row;
  within : l.count ≤ l.row.len;
  still_filled : Filled l.row.filled l.next l.count;
}

abbrev pub decreases-loop-next : goal.decreases-loop-next
decreases-loop-next g l = l.count - l.next
