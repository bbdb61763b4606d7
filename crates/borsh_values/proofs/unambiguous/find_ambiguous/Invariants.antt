use Rattle.std.proofs.Common.{◌≡◌, ◌<◌, ◌-◌, ℕ, length, Some}
use Rattle.borsh_walks.specs.Container.{Shape}
use Rattle.borsh_plan.specs.{Names.shape_at, Plan.names_of}
use Rattle.borsh_values.specs.Unambiguous.{UnambiguousShape}
use Rattle.borsh_values.proofs.unambiguous.find_ambiguous.Given as goal

abbrev pub invariant-loop-at : goal.invariant-loop-at
invariant-loop-at l = (i : ℕ) (d : Shape) → i < l.at → shape_at (names_of l.plan) i ≡ Some d → UnambiguousShape d

abbrev pub decreases-loop-at : goal.decreases-loop-at
decreases-loop-at l = length (names_of l.plan) - l.at
