use Rattle.std.proofs.Common.{◌≡◌, ◌-◌, false, length}
use Rattle.borsh_walks.specs.Definitions.{definitions_in}
use Rattle.borsh_walks.specs.ZeroAnswer.{ZeroTable}
use Rattle.borsh_plan.specs.Zeros.{ZeroAt}
use Rattle.borsh_plan.proofs.SizesLaws.{Answered}
use Rattle.borsh_plan.proofs.zeros.zero_sizes.Given as goal

abbrev pub invariant-loop-at : goal.invariant-loop-at
invariant-loop-at l = record {
  at : l.at ≡ length l.zeros.items;
  table : ZeroTable (definitions_in l.names.map.now) l.table;
  zeros : Answered false (ZeroAt (definitions_in l.names.map.now) l.names.names.items) l.zeros.items;
}

abbrev pub decreases-loop-at : goal.decreases-loop-at
decreases-loop-at l = l.count - l.at
