use Rattle.std.proofs.Common.{◌≡◌, ◌++◌, ◌≤◌, map, drop, length}
use Rattle.borsh_plan.specs.Names.{name_at}
use Rattle.borsh_plan.specs.Plan.{names_of}
use Rattle.borsh_compare.specs.Walks.{names_from}
use Rattle.borsh_compare.proofs.through.open.Given as goal

abbrev pub invariant-loop-left : goal.invariant-loop-left
invariant-loop-left l = record {
  within : l.left ≤ length l.parts;
  names : names_from l.plan l.names.items ≡ map (λ i. name_at (names_of l.plan) i) (drop l.left l.parts) ++ names_from l.plan l.fn.names.items;
}

abbrev pub decreases-loop-left : goal.decreases-loop-left
decreases-loop-left l = l.left
