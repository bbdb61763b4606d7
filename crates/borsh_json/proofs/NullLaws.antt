-- JSON `null` says only values of names whose JSON may be `null`.
use Rattle.std.proofs.Common.{inl, inr, ℕ, suc, zero, List, ◌∷◌, ◌++◌, Option, Some, ◌∙◌, ap, subst}
use Rattle.json.specs.Json.{null}
use Rattle.borsh_json.specs.{Forms.{Form, HasNoBytes}, Table.{Kind, no_bytes, truth, whole, float, raw, utf8, byte_list, list, row, inner, fields, optional, variants, entries, MayBeNull, too_far, without_bytes, an_option, in_newtype, HasKind, IsNumber, Part, Says}, Represents.{HaveBytes}}
use Rattle.borsh_json.proofs.{FormKinds.{formed, form_found}, ReaderLaws.{uncons}}

not_number : (n : ℕ) (s : List ℕ) → IsNumber n s null → ⊥
not_number n s (inl i) = let e = i.1 in cc
not_number n s (inr i) = let e = i.1 in cc

module _ (F : List ℕ → Option Form) where
  has_none : {x : List ℕ} → HasKind F x no_bytes → HasNoBytes F x
  has_none (inl h) = h.0
  has_none (inr h) = absurd (formed F no_bytes h.1 h.2 h.3)

  null_says : (n : ℕ) (x : List ℕ) (kind : Kind) (own : List ℕ) (qs ps : List Part) (bs : List ℕ) → ((y : List ℕ) → HaveBytes F ((y, null) ∷ ps) bs → MayBeNull F n y) → HasKind F x kind → Says F kind null own qs → HaveBytes F (qs ++ ps) bs → MayBeNull F (suc n) x
  null_says n x no_bytes own qs ps bs inner_null h s b = without_bytes (has_none h)
  null_says n x truth own qs ps bs inner_null h s b = let e = s.1 in cc
  null_says n x (whole m signed non_zero) own qs ps bs inner_null h s b = absurd (not_number m s.0 s.1)
  null_says n x (float g) own qs ps bs inner_null h s b = let e = s.1 in cc
  null_says n x (raw m) own qs ps bs inner_null h s b = let e = s.0.1 in cc
  null_says n x (utf8 l) own qs ps bs inner_null h s b = let e = s.1 in cc
  null_says n x (byte_list l e) own qs ps bs inner_null h (inl s) b = let e = s.1.1 in cc
  null_says n x (byte_list l e) own qs ps bs inner_null h (inr s) b = let e = s.1 in cc
  null_says n x (list l e) own qs ps bs inner_null h s b = let e = s.1 in cc
  null_says n x (row xs) own qs ps bs inner_null h s b = let e = s.2 in cc
  null_says n x (inner y) own qs ps bs inner_null h s b =
      let f = form_found F (inner y) h (λ e. cc) in
      in_newtype y (f.1 ∙ ap (λ d. Some d) f.2) (inner_null y (subst (λ (l : List Part). HaveBytes F (l ++ ps) bs) s.1 b))
  null_says n x (fields fs) own qs ps bs inner_null h s b = let e = s.3 in cc
  null_says n x (optional y) own qs ps bs inner_null h s b = let f = form_found F (optional y) h (λ e. cc) in an_option y f.2.0
  null_says n x (variants w vs) own qs ps bs inner_null h s b = elim s.6 [ inl a ↦ (let e = a.0 in cc) | inr a ↦ (let e = a.1 in cc) ]
  null_says n x (entries l keys k v) own qs ps bs inner_null h s b = let e = s.2 in cc

  pub may_be_null : (n : ℕ) (x : List ℕ) (ps : List Part) (bs : List ℕ) → HaveBytes F ((x, null) ∷ ps) bs → MayBeNull F n x
  may_be_null zero x ps bs b = too_far
  may_be_null (suc n) x ps bs b =
      let u = uncons F b in
      let f = u.4 in
      null_says n x f.0 u.0 u.1 ps u.2 (λ y r. may_be_null n y ps u.2 r) f.1 f.2 u.5
