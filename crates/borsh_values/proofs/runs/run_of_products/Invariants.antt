use Rattle.std.proofs.Common.{◌-◌, ◌≤◌, replicate}
use Rattle.borsh_plan.specs.{Names.name_at, Plan.definitions_of, Plan.names_of}
use Rattle.borsh_values.specs.Free.{AreFirst}
use Rattle.borsh_values.proofs.runs.run_of_products.Given as goal

abbrev pub invariant-loop-values : goal.invariant-loop-values
invariant-loop-values l = record { few : l.values ≤ l.count; first : AreFirst (definitions_of l.plan) (replicate l.values (name_at (names_of l.plan) l.at)) l.left l.taken }

abbrev pub decreases-loop-values : goal.decreases-loop-values
decreases-loop-values l = l.count - l.values
