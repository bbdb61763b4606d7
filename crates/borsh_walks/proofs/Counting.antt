-- Counts that are raised one by one.
use Rattle.std.proofs.Common.{◌≡◌, ℕ, suc, zero, ◌+◌, ◌∙◌, ap, arith}
use Rattle.std.specs.Prelude.{min, Result, Ok, Err, OnOk, IsErr}
use Rattle.borsh_walks.specs.Counts.{add_saturating, add_to}
use Rattle.borsh_walks.specs.declared.counted.Question.{Question}
use Rattle.borsh_walks.specs.declared.counted.Question.TheVariants.{Size, Zero, Rules}
use Rattle.borsh_walks.specs.declared.counted.Expansions.{Expansions}

pub raised-more : (n k : ℕ) → min (add_saturating n k + 1) 18446744073709551615 ≡ min (n + suc k) 18446744073709551615
raised-more n zero = omega arith
raised-more n (suc k) = omega arith

raised_again : (q : Question) (k : ℕ) (e : Expansions) → add_to q 1 (add_to q k e) ≡ add_to q (suc k) e
raised_again Size k e = ap (λ s. record e { size = s }) (raised-more e.size k)
raised_again Zero k e = ap (λ s. record e { zero = s }) (raised-more e.zero k)
raised_again Rules k e = ap (λ s. record e { rules = s }) (raised-more e.rules k)

pub raised_once_more : (q : Question) (k : ℕ) (a b e : Expansions) → a ≡ add_to q k e → b ≡ add_to q 1 a → b ≡ add_to q (suc k) e
raised_once_more q k a b e h i = i ∙ ap (λ s. add_to q 1 s) h ∙ raised_again q k e

-- after an error nothing is said of a value
pub on_err : {A E : Type 0} (P : Type 0) (r : Result A E) → IsErr r → OnOk r P
on_err P (Ok n) h = cc
on_err P (Err e) h = tt
