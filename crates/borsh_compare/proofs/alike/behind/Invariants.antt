use Rattle.std.proofs.Common.{ℕ, List}
use Rattle.borsh_plan.specs.Plan.{names_of}
use Rattle.borsh_json.specs.Places.{IsAt}
use Rattle.borsh_compare.specs.Alike.{IsBehind, forms_of}
use Rattle.borsh_compare.proofs.alike.behind.Given as goal

abbrev pub invariant-loop : goal.invariant-loop
invariant-loop l = (x : List ℕ) → IsAt (names_of l.json.plan.now) l.fn.at x → (y : List ℕ) × IsAt (names_of l.json.plan.now) l.at y × IsBehind (forms_of l.json.plan.now) x y
