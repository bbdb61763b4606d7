use Rattle.std.proofs.Common.{◌-◌, ◌≤◌}
use lib.ListN.{take}
use Rattle.core.specs.Mem.Slots.{SamePlaces}
use Rattle.core.specs.Mem.Slots.Ownership.{Filled}
use Rattle.borsh_arrays.specs.Made.{IsMadeBehind}
use Rattle.borsh_arrays.proofs.row.put_all.Given as goal

abbrev pub invariant-loop-count : goal.invariant-loop-count
invariant-loop-count g l = record {
  same_places : SamePlaces l.fn.row l.row;
  some : 1 ≤ l.count;
  within : l.count ≤ l.row.len;
  filled : Filled l.row.filled 0 l.count;
  made : IsMadeBehind g.M.Maker.makes (l.count - 1) l.fn.first l.fn.maker (take l.count l.row.items) l.maker;
}

abbrev pub decreases-loop-count : goal.decreases-loop-count
decreases-loop-count g l = l.row.len - l.count
