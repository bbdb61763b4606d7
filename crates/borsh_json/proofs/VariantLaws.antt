-- The first variant with a tag.
use Rattle.std.proofs.{Common.{◌≡◌, ℕ, suc, zero, ◌+◌, ◌≤◌, List, [], ◌∷◌, length, drop, Bool, true, false, Some, None, refl, ◌∙◌, ap, arith, ℤ, slice_get, if◌then◌else◌, bytes_eq}, lemmas.Slice.Eq.{bytes_eq-Decides}}
use Rattle.borsh_walks.specs.Container.{tag}
use Rattle.borsh_json.specs.Ordered.{variant_of}

drop_variant : (vs : List (ℤ × List ℕ)) (i : ℕ) (v : ℤ × List ℕ) → slice_get vs i ≡ Some v → drop i vs ≡ v ∷ drop (suc i) vs
drop_variant [] i v e = cc
drop_variant (u ∷ vs) zero v e = let q : u ≡ v = cc in ap (λ (v : ℤ × List ℕ). v ∷ vs) q
drop_variant (u ∷ vs) (suc i) v e = drop_variant vs i v e

chosen : {A : Type 0} (b : Bool) (x y : A) → b ≡ true → (if b then x else y) ≡ x
chosen true x y e = refl
chosen false x y e = cc

passed : {A : Type 0} (b : Bool) (x y : A) → b ≡ false → (if b then x else y) ≡ y
passed true x y e = cc
passed false x y e = refl

unlike : (b : Bool) → (b ≡ true → ⊥) → b ≡ false
unlike true n = absurd (n refl)
unlike false n = refl

module _ (t : List ℕ) (vs : List (ℤ × List ℕ)) (i : ℕ) (k : ℤ) (p : List ℕ) (there : slice_get vs i ≡ Some (k, p)) where
  pub variant_here : tag (length t) k ≡ t → variant_of t (drop i vs) ≡ Some p
  variant_here e = ap (λ l. variant_of t l) (drop_variant vs i (k, p) there) ∙ chosen (bytes_eq (tag (length t) k) t) (Some p) (variant_of t (drop (suc i) vs)) ((bytes_eq-Decides (tag (length t) k) t).1 e)

  pub variant_later : (tag (length t) k ≡ t → ⊥) → variant_of t (drop i vs) ≡ variant_of t (drop (i + 1) vs)
  variant_later n =
      let s : suc i ≡ i + 1 = omega arith in
      ap (λ l. variant_of t l) (drop_variant vs i (k, p) there) ∙ passed (bytes_eq (tag (length t) k) t) (Some p) (variant_of t (drop (suc i) vs)) (unlike (bytes_eq (tag (length t) k) t) (λ e. n ((bytes_eq-Decides (tag (length t) k) t).0 e))) ∙ ap (λ j. variant_of t (drop j vs)) s

pub variant_end : (t : List ℕ) (vs : List (ℤ × List ℕ)) (i : ℕ) → length vs ≤ i → variant_of t (drop i vs) ≡ None
variant_end t [] zero h = refl
variant_end t [] (suc i) h = refl
variant_end t (v ∷ vs) zero h = absurd (omega (arith, h))
variant_end t (v ∷ vs) (suc i) h = variant_end t vs i (omega (arith, h))
