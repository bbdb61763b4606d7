-- The definition that a name of a kind has.
use Rattle.std.proofs.Common.{◌≡◌, ◌⊎◌, inl, inr, ℕ, List, [], ◌∷◌, Bool, true, false, Option, Some, refl, sym, ◌∙◌, ap, subst, bytes_eq}
use Rattle.std.specs.{Prelude.{⊤, ◌&&◌, ◌==◌, if◌then◌else◌, codes, option_map}, Float.{binary32, binary64}}
use Rattle.borsh_json.specs.{Forms.{Form, primitive, sequence, tuple, choice, named, unnamed, no_fields, shape_of_form, IsByte, IsMap}, Table.{Lengths, Kind, no_bytes, truth, whole, float, utf8, byte_list, list, row, inner, fields, optional, variants, entries, number_types, number_kind, primitive_kind, unnamed_kind, a_text, some_bytes, an_object, some_elements, IsNullable, nullable, by_name, AreKeys, DefinedKind, HasKind}}

pub shaped : (o : Option Form) {f : Form} → o ≡ Some f → option_map shape_of_form o ≡ Some (shape_of_form f)
shaped o e = ap (λ o. option_map shape_of_form o) e

-- a sequence of these lengths
abbrev IsSequence : Lengths → List ℕ → Form → Type 0
IsSequence l e d = d ≡ sequence l.width l.least l.greatest e

-- a struct whose fields have no names is a row or what its only field is
pub unnamed_is : (P : Kind → Type 0) → ((xs : List (List ℕ)) → P (row xs)) → ((y : List ℕ) → P (inner y)) → (ps : List (List ℕ)) → P (unnamed_kind ps)
unnamed_is P r i [] = r []
unnamed_is P r i (p ∷ []) = i p
unnamed_is P r i (p ∷ q ∷ ps) = r (p ∷ q ∷ ps)

module _ (F : List ℕ → Option Form) where
  -- the definition is one of a name of this kind that has bytes
  abbrev pub IsFormOf : List ℕ → Kind → Form → Type 0
  IsFormOf x no_bytes d = ⊥
  IsFormOf x (utf8 l) d = (e : List ℕ) × IsSequence l e d
  IsFormOf x (byte_list l e) d = IsSequence l e d × IsByte F e
  IsFormOf x (list l e) d = IsSequence l e d
  IsFormOf x (row xs) d = (d ≡ tuple xs) ⊎ ((d ≡ unnamed xs) ⊎ ((d ≡ no_fields) × (xs ≡ [])))
  IsFormOf x (inner p) d = d ≡ unnamed (p ∷ [])
  IsFormOf x (fields fs) d = d ≡ named fs
  IsFormOf x (optional p) d = IsNullable F x p
  IsFormOf x (variants w vs) d = d ≡ choice w vs
  IsFormOf x (entries l keys k v) d = (e : List ℕ) × IsSequence l e d × (F e ≡ Some (tuple (k ∷ v ∷ []))) × AreKeys F k keys
  IsFormOf x kind d = ⊤

  formed_if : (x : List ℕ) (d : Form) (b : Bool) (k l : Kind) → IsFormOf x k d → IsFormOf x l d → IsFormOf x (if b then k else l) d
  formed_if x d true k l p q = p
  formed_if x d false k l p q = q

  number_formed : (x : List ℕ) (d : Form) (ts : List (List ℕ × ℕ × Bool × Bool)) (n : ℕ) → IsFormOf x (number_kind ts x n) d
  number_formed x d [] n = tt
  number_formed x d (t ∷ ts) n = formed_if x d (bytes_eq x t.0 && (t.1 == n)) (whole t.1 t.2 t.3) (number_kind ts x n) tt (number_formed x d ts n)

  primitive_formed : (x : List ℕ) (d : Form) (n : ℕ) → IsFormOf x (primitive_kind x n) d
  primitive_formed x d n =
      let doubles = formed_if x d (bytes_eq x (codes "f64") && (n == 8)) (float binary64) (number_kind number_types x n) tt (number_formed x d number_types n) in
      let floats = formed_if x d (bytes_eq x (codes "f32") && (n == 4)) (float binary32) _ tt doubles in
      formed_if x d (bytes_eq x (codes "bool") && (n == 1)) truth _ tt floats

  -- the elements of a map are tuples of its keys and values
  pub map_elements : {x k v : List ℕ} (w lo hi : ℕ) (e : List ℕ) → F x ≡ Some (sequence w lo hi e) → IsMap F x k v → F e ≡ Some (tuple (k ∷ v ∷ []))
  map_elements w lo hi e c m =
      let q : Some (sequence w lo hi e) ≡ Some (sequence 4 0 4294967295 m.0) = sym c ∙ m.1 in
      let s : e ≡ m.0 = cc in
      ap F s ∙ m.2

  pub formed : {x : List ℕ} (kind : Kind) (d : Form) → F x ≡ Some d → DefinedKind F x d kind → IsFormOf x kind d
  formed {x = x} kind (primitive n) c p = subst (λ k. IsFormOf x k (primitive n)) (sym p) (primitive_formed x (primitive n) n)
  formed kind (sequence w lo hi e) c (a_text s b) = (e, refl)
  formed kind (sequence w lo hi e) c (some_bytes s b) = (refl, b)
  formed kind (sequence w lo hi e) c (an_object m k) = (e, refl, map_elements w lo hi e c m, k)
  formed kind (sequence w lo hi e) c (some_elements s b m k) = refl
  formed {x = x} kind (tuple ps) c p = subst (λ k. IsFormOf x k (tuple ps)) (sym p) (inl refl)
  formed kind (choice w vs) c (nullable i) = i
  formed kind (choice w vs) c (by_name i) = refl
  formed {x = x} kind (named fs) c p = subst (λ k. IsFormOf x k (named fs)) (sym p) refl
  formed {x = x} kind (unnamed []) c p = subst (λ k. IsFormOf x k (unnamed [])) (sym p) (inr (inl refl))
  formed {x = x} kind (unnamed (y ∷ [])) c p = subst (λ k. IsFormOf x k (unnamed (y ∷ []))) (sym p) refl
  formed {x = x} kind (unnamed (y ∷ z ∷ ps)) c p = subst (λ k. IsFormOf x k (unnamed (y ∷ z ∷ ps))) (sym p) (inr (inl refl))
  formed {x = x} kind no_fields c p = subst (λ k. IsFormOf x k no_fields) (sym p) (inr (inr (refl, refl)))

  -- a name of a kind with bytes
  pub form_found : {x : List ℕ} (kind : Kind) → HasKind F x kind → (kind ≡ no_bytes → ⊥) → (d : Form) × (F x ≡ Some d) × IsFormOf x kind d
  form_found kind (inl h) n = absurd (n h.1)
  form_found kind (inr h) n = (h.1, h.2, formed kind h.1 h.2 h.3)

  -- which has this definition
  pub form_known : {x : List ℕ} (kind : Kind) (f : Form) → HasKind F x kind → F x ≡ Some f → (kind ≡ no_bytes → ⊥) → IsFormOf x kind f
  form_known {x = x} kind f h c n =
      let d = form_found kind h n in
      let q : Some d.0 ≡ Some f = sym d.1 ∙ c in
      let s : d.0 ≡ f = cc in
      subst (λ g. IsFormOf x kind g) s d.2
