-- What a maker makes, seen through a state that holds the maker's and has more beside it.
use Rattle.std.proofs.Common.{◌≡◌, ℕ, List, [], ◌∷◌, Option, Some, sym, ap, subst, ◌∙◌}
use Rattle.borsh_arrays.specs.Made.{MadeInOrder, IsMade, IsGivenUp}

some_same : {A : Type 0} (x y : A) → Some x ≡ Some y → x ≡ y
some_same x y e = cc

-- `view` is the maker's state, and `name` and `other` are what stays
module _ {R S A B C : Type 0} (view : R → S) (name : R → B) (other : R → C) (makes : S → A → S → Type 0) where
  abbrev pub ByView : R → A → R → Type 0
  ByView s x t = (name t ≡ name s) × (other t ≡ other s) × makes (view s) x (view t)

  pub MadeInOrder-view : (s t : R) (xs : List A) → MadeInOrder ByView s xs t → (name t ≡ name s) × (other t ≡ other s) × MadeInOrder makes (view s) xs (view t)
  MadeInOrder-view s t [] m = (ap name (sym m), ap other (sym m), ap view m)
  MadeInOrder-view s t (x ∷ xs) m =
      let r = MadeInOrder-view m.0 t xs m.2 in
      (r.0 ∙ m.1.0, r.1 ∙ m.1.1, (view m.0, m.1.2, r.2))

  pub IsMade-view : {n : ℕ} {s t : R} {xs : List A} → IsMade ByView n s xs t → (name t ≡ name s) × (other t ≡ other s) × IsMade makes n (view s) xs (view t)
  IsMade-view {s = s} {t = t} {xs = xs} m =
      let r = MadeInOrder-view s t xs m.in_order in
      (r.0, r.1, record { count = m.count; in_order = r.2 })

  -- the reason why it gave up is kept
  module _ {E : Type 0} (kept : R → Option E) (fails : S → E → S → Type 0) where
    abbrev pub FailsByView : R → R → Type 0
    FailsByView s t = (name t ≡ name s) × (other t ≡ other s) × (reason : E) × (kept t ≡ Some reason) × fails (view s) reason (view t)

    pub IsGivenUp-view : {n : ℕ} {s t : R} (reason : E) → kept t ≡ Some reason → IsGivenUp ByView FailsByView n s t
        → (name t ≡ name s) × (other t ≡ other s) × IsGivenUp makes (λ u v. fails u reason v) n (view s) (view t)
    IsGivenUp-view {s = s} {t = t} reason is m =
        let r = MadeInOrder-view s m.last m.made m.in_order in
        let why = m.stopped in
        let same : why.2 ≡ reason = some_same why.2 reason (sym why.3 ∙ is) in
        (why.0 ∙ r.0, why.1 ∙ r.1, record { made = m.made; last = view m.last; few = m.few; in_order = r.2; stopped = subst (λ e. fails (view m.last) e (view t)) same why.4 })
