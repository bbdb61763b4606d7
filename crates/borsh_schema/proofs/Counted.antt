-- Counts of a validation, by other names of the same things.
use Rattle.std.proofs.Common.{◌≡◌, ℕ, List, Option, Result, OnOk, subst}
use Rattle.borsh_walks.specs.declared.counted.Expansions.{Expansions}
use Rattle.borsh_walks.specs.Container.{Shape}
use Rattle.borsh_walks.specs.RulesState.{JudgedCounts}

pub judged_as : {E : Type 0} (r : Result (Unit {0}) E) {C D : List ℕ → Option Shape} {root name : List ℕ} {a b c d : Expansions} → C ≡ D → root ≡ name → a ≡ b → c ≡ d → OnOk r (JudgedCounts C root a c) → OnOk r (JudgedCounts D name b d)
judged_as r {C = C} {D = D} {root = root} {name = name} {a = a} {b = b} {c = c} {d = d} e f g h j =
    subst (λ x. OnOk r (JudgedCounts D name b x)) h (subst (λ x. OnOk r (JudgedCounts D name x c)) g (subst (λ x. OnOk r (JudgedCounts D x a c)) f (subst (λ x. OnOk r (JudgedCounts x root a c)) e j)))
