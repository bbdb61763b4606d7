use Rattle.std.proofs.Common.{◌≡◌, ◌⊎◌, inl, inr, [], length, ℕ, ◌<◌, get_or, arith, sym, ◌∙◌, ap, subst}
use Rattle.std.proofs.Math.Nat.{eq-or-lt_of_le}
use Rattle.std.proofs.lemmas.List.{get_or_default}
use Rattle.borsh_ser.proofs.arrays.elements_of.Goals as goal

-- what holds of all before an index and at it holds of all up to it
up_to : (P : ℕ → Type 0) (n i : ℕ) → ((i : ℕ) → i < n → P i) → P n → (i ≡ n) ⊎ (i < n) → P i
up_to P n i before at (inl e) = subst P (sym e) at
up_to P n i before at (inr h) = before i h

pub loop-array-preserved : goal.loop-array-preserved
loop-array-preserved g c =
    let all = c.args.arrays.now in
    let n = c.loop-array.array-index in
    let long : length c.array-item.result ≡ g.row.N = sym c.count.ensures ∙ c.if-count.false in
    let here : length (get_or all n []) ≡ g.row.N = ap length (get_or_default all n [] c.array-item.result c.loop-array-test.true ∙ sym c.array-item.is) ∙ long in
    λ i below. up_to (λ i. length (get_or all i []) ≡ g.row.N) n i c.loop-array.invariant here (eq-or-lt_of_le (omega (arith, below)))

pub returns-clause-lengths : goal.returns-clause-lengths
returns-clause-lengths g c = λ k d h. ap length (get_or_default c.args.arrays.now k d [] h) ∙ c.loop-array.invariant k (omega (arith, h, c.loop-array-test.false))
