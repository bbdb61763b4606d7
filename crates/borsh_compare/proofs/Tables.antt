-- A pair that is pushed, and its index put in the table.
use Rattle.std.proofs.Common.{◌≡◌, ◌⊎◌, ℕ, suc, zero, List, [], ◌∷◌, ◌++◌, length, Bool, true, false, Some, refl, sym, ◌∙◌, ap, subst, inl, inr}
use Rattle.std.specs.Prelude.{if◌then◌else◌, slice_get}
use Rattle.std.specs.BTreeMap.{BTreeMap, Updates, is_at}
use Rattle.std.specs.Cmp.{Equal-is}
use Rattle.std.specs.Ordering.{nat_cmp}
use Rattle.std.proofs.lemmas.Map.Lookups.{exact_pairs, exact_unsigned}
use Rattle.borsh_compare.specs.Walks.{Keeps, HasPair}
use Rattle.borsh_compare.specs.Indexed.{AddsOnly, HasIndices, LacksPair, pair_cmp, index_in}
use Rattle.borsh_compare.specs.declared.pairs.Pair.{Pair}
use Rattle.borsh_compare.proofs.Keeping.{keeps_more}
use Rattle.borsh_walks.proofs.Propositions.{same_some}

at_end : (a : List Pair) (p : Pair) → slice_get (a ++ p ∷ []) (length a) ≡ Some p
at_end [] p = refl
at_end (q ∷ a) p = at_end a p

last_or : (a : List Pair) (p : Pair) (i : ℕ) (q : Pair) → slice_get (a ++ p ∷ []) i ≡ Some q → (slice_get a i ≡ Some q) ⊎ ((p ≡ q) × (length a ≡ i))
last_or [] p zero q e = inr (same_some refl e, refl)
last_or [] p (suc i) q e = cc
last_or (r ∷ a) p zero q e = inl e
last_or (r ∷ a) p (suc i) q e = elim (last_or a p i q e) [ inl h ↦ inl h | inr h ↦ inr (h.0, ap suc h.1) ]

module _ (a b : List Pair) (p : Pair) (e : b ≡ a ++ p ∷ []) where
  pub keeps_pushed : Keeps a b
  keeps_pushed = subst (λ l. Keeps a l) (sym e) (keeps_more a p)

  pub has_pushed : HasPair b p.old p.new
  has_pushed = record { index = length a; pair = p; there = ap (λ l. slice_get l (length a)) e ∙ at_end a p; old = refl; new = refl }

  pub only_pushed : AddsOnly p a b
  only_pushed i q h = elim (last_or a p i q (ap (λ l. slice_get l i) (sym e) ∙ h)) [ inl k ↦ inl k | inr k ↦ inr (ap (λ (r : Pair). r.old) (sym k.0), ap (λ (r : Pair). r.new) (sym k.0)) ]

pub indexed_pushed : (a : List Pair) (p : Pair) (t u : BTreeMap (ℕ × ℕ) ℕ) → HasIndices a t → LacksPair a p.old p.new → Updates pair_cmp t u (p.old, p.new) (Some (length a)) → HasIndices (a ++ p ∷ []) u
indexed_pushed a p t u f lacks w i q e = elim (last_or a p i q e) [
  | inl h ↦ w.2 (q.old, q.new) (apart h (is_at (pair_cmp (p.old, p.new)) (q.old, q.new)) refl) ∙ f i q h
  | inr h ↦ subst (λ (r : Pair). index_in u r.old r.new ≡ Some i) h.0 (w.1 ∙ ap (λ n. Some n) h.1)
]
  where
    apart : slice_get a i ≡ Some q → (b : Bool) → is_at (pair_cmp (p.old, p.new)) (q.old, q.new) ≡ b → b ≡ false
    apart h false k = refl
    apart h true k =
        let s : (p.old, p.new) ≡ (q.old, q.new) = exact_pairs nat_cmp nat_cmp exact_unsigned exact_unsigned (p.old, p.new) (q.old, q.new) ((Equal-is (pair_cmp (p.old, p.new) (q.old, q.new))).0 k) in
        absurd (lacks i q h (ap (λ (z : ℕ × ℕ). z.0) (sym s)) (ap (λ (z : ℕ × ℕ). z.1) (sym s)))

-- also where it isn't pushed
pub indexed_either : (a c : List Pair) (p : Pair) (u : BTreeMap (ℕ × ℕ) ℕ) (b : Bool) → c ≡ (if b then a ++ p ∷ [] else a) → HasIndices (a ++ p ∷ []) u → HasIndices c u
indexed_either a c p u true e f = subst (λ l. HasIndices l u) (sym e) f
indexed_either a c p u false e f = subst (λ l. HasIndices l u) (sym e) (λ i q h. f i q (keeps_more a p i q h))
