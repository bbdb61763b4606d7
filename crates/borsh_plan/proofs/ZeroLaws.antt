-- Which names are of zero size.
use Rattle.std.proofs.Common.{◌≡◌, ℕ, List, [], Some, None, sym, ◌∙◌, ap, subst}
use Rattle.std.specs.Prelude.{Option}
use Rattle.borsh_walks.specs.Container.{Shape, primitive, sequence, product, choice, IsIn, IsZeroSize, zeroed, zero_size_references}
use Rattle.borsh_plan.specs.Names.{parts_in}
use Rattle.borsh_plan.specs.Zeros.{IsNeverZero, IsProduct}

module _ (C : List ℕ → Option Shape) where
  pub unit_zero : {x : List ℕ} (d : Shape) → C x ≡ Some d → zero_size_references d ≡ Some [] → IsZeroSize C x
  unit_zero d e z = zeroed d [] e z (λ p a. elim a [ ])

  pub full : {x : List ℕ} (d : Shape) → C x ≡ Some d → zero_size_references d ≡ None → IsZeroSize C x → ⊥
  full {x} d e n (zeroed f ps g z h) =
      let s : Some d ≡ Some f = sym e ∙ g in
      let q : d ≡ f = cc in
      let t : None ≡ Some ps = sym n ∙ ap (λ k. zero_size_references k) q ∙ z in
      cc

  pub never_zero_at : {x : List ℕ} (o : Option Shape) → C x ≡ o → IsNeverZero o → IsZeroSize C x → ⊥
  never_zero_at None e n = absurd n
  never_zero_at (Some d) e n = full d e n

  -- a struct or tuple with a part that has bytes
  pub never_zero_part : {x p : List ℕ} (d : Shape) → C x ≡ Some d → IsProduct d → IsIn p (parts_in (Some d)) → (IsZeroSize C p → ⊥) → IsZeroSize C x → ⊥
  never_zero_part (primitive n) e r a f h = absurd r
  never_zero_part (sequence w lo hi t) e r a f h = absurd r
  never_zero_part (choice w vs) e r a f h = absurd r
  never_zero_part {x} {p} (product qs) e r a f (zeroed k ps g z h) =
      let s : Some (product qs) ≡ Some k = sym e ∙ g in
      let q : product qs ≡ k = cc in
      let t : Some qs ≡ Some ps = ap (λ k. zero_size_references k) q ∙ z in
      let u : qs ≡ ps = cc in
      f (h p (subst (λ l. IsIn p l) u a))
