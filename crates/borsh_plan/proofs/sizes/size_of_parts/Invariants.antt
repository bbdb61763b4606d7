use Rattle.std.proofs.Common.{◌-◌, ◌<◌, ◌^◌, ℕ, List, length, drop}
use Rattle.borsh_plan.specs.Names.{parts_in, shape_at}
use Rattle.borsh_plan.specs.Sizes.{AreSizes}
use Rattle.borsh_plan.proofs.SizesLaws.{Summed}
use Rattle.borsh_plan.proofs.sizes.size_of_parts.Given as goal

abbrev pub invariant-loop-part : goal.invariant-loop-part
invariant-loop-part l = record {
  summed : (P : List ℕ → ℕ) → AreSizes P l.names.names.items l.sizes.items → Summed P (drop l.next (parts_in (shape_at l.names.names.items l.at))) (drop l.index (parts_in (shape_at l.names.names.items l.at))) l.total;
  small : l.total < 2 ^ 64;
}

abbrev pub decreases-loop-part : goal.decreases-loop-part
decreases-loop-part l = length (parts_in (shape_at l.names.names.items l.at)) - l.index
