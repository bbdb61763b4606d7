-- When JSON that says a value by the old definitions says it by the new ones.
use Rattle.std.specs.Prelude.{◌≡◌, ⊤, ℕ, ◌<◌, ◌≤◌, ℤ, String, string_bytes, List, [], ◌∷◌, length, map, Bool, Option, Some, slice_get}
use Rattle.std.specs.Borrow.{Bor}
use Rattle.std.specs.Float.{Format}
use Rattle.std.specs.Global.{Global}
use Rattle.std.specs.List.{IsDistinct}
use Rattle.std.specs.Str.{bytes_eq}
use Rattle.borsh_walks.specs.declared.definition.Definition.{Definition}
use Rattle.borsh_walks.specs.Container.{variant_names}
use Rattle.borsh_walks.specs.Forms.{variant_bytes}
use Rattle.borsh_plan.specs.declared.plan.Plan.{Plan}
use Rattle.borsh_plan.specs.Names.{parts_in, shape_at}
use Rattle.borsh_plan.specs.Plan.{map_of, names_of, root_of}
use Rattle.borsh_json.specs.declared.kinds.Kind.{Kind as Found}
use Rattle.borsh_json.specs.declared.kinds.KeyKind.{KeyKind}
use Rattle.borsh_json.specs.declared.kinds.KeyKind.TheVariants.{Text, Number}
use Rattle.borsh_json.specs.Forms.{Form, form_of, forms_in, HasNoBytes}
use Rattle.borsh_json.specs.Places.{IsAt, IsKindOf, IsUnsayable}
use Rattle.borsh_json.specs.Represents.{HaveBytes}
use Rattle.borsh_json.specs.Table.{Lengths, Keys, Kind, no_bytes, truth, whole, float, raw, utf8, byte_list, list, row, inner, fields, optional, variants, entries, HasKind, IsVariant}
use Rattle.json.specs.Json.{Json}
use Rattle.borsh_compare.specs.Together.{NamesGo, unnamed}
use Rattle.borsh_compare.specs.Walks.{Paired}
use Rattle.borsh_compare.specs.declared.pairs.Pair.{Pair}

-- the definitions of a plan, with the names of fields and variants
abbrev pub forms_of : Plan → List ℕ → Option Form
forms_of p = forms_in (map_of p)

-- JSON that says bytes as a value of the first root says them as one of the second
abbrev pub SaysAlso : Plan → Plan → Type 0
SaysAlso old new = (j : Json) (bytes : List ℕ) → HaveBytes (forms_of old) ((root_of old, j) ∷ []) bytes → HaveBytes (forms_of new) ((root_of new, j) ∷ []) bytes

-- prefixes of one width, and each length of the first is one of the second
abbrev pub LieIn : Lengths → Lengths → Type 0
LieIn l m = (l.width ≡ m.width) × (m.least ≤ l.least) × (l.greatest ≤ m.greatest)

-- the variants of a definition of the code, and the names of its fields
abbrev pub variants_of : List (ℤ × String Global × String Global) → List (ℤ × List ℕ × List ℕ)
variants_of vs = map {A = ℤ × String Global × String Global} {B = ℤ × List ℕ × List ℕ} variant_bytes vs

abbrev pub field_names : List (String Global × String Global) → List (List ℕ)
field_names fs = map {A = String Global × String Global} {B = List ℕ} (λ f. string_bytes f.0) fs

-- the parts of the name at a place are those of these variants
abbrev pub HasVariantParts : Plan → ℕ → List (ℤ × String Global × String Global) → Type 0
HasVariantParts p i vs = parts_in (shape_at (names_of p) i) ≡ variant_names (unnamed vs)

-- R says which names are taken to be written alike
module _ (R : List ℕ → List ℕ → Type 0) where
  -- each of the first n variants has its discriminant and its name in the other enum too
  abbrev pub VariantsAlike : ℕ → List (ℤ × List ℕ × List ℕ) → List (ℤ × List ℕ × List ℕ) → Type 0
  VariantsAlike n vs us = (i : ℕ) (k : ℤ) (v p : List ℕ) → i < n → slice_get vs i ≡ Some (k, v, p) → (q : List ℕ) × IsVariant k v q us × R p q

  -- what JSON says by the first kind it says by the second, if that holds of its parts
  pub data KindsAlike : Kind → Kind → Type 0 where
    of_nothing : KindsAlike no_bytes no_bytes
    of_truth : KindsAlike truth truth
    of_whole : {n : ℕ} {signed non_zero : Bool} → KindsAlike (whole n signed non_zero) (whole n signed non_zero)
    of_float : {f : Format} → KindsAlike (float f) (float f)
    of_raw : {n : ℕ} → KindsAlike (raw n) (raw n)
    of_utf8 : {l m : Lengths} → LieIn l m → KindsAlike (utf8 l) (utf8 m)
    of_byte_list : {l m : Lengths} {e g : List ℕ} → LieIn l m → R e g → KindsAlike (byte_list l e) (byte_list m g)
    of_list : {l m : Lengths} {e g : List ℕ} → LieIn l m → R e g → KindsAlike (list l e) (list m g)
    of_row : {xs ys : List (List ℕ)} → NamesGo R xs ys → KindsAlike (row xs) (row ys)
    of_fields : {fs gs : List (List ℕ × List ℕ)} → map (λ f. f.0) fs ≡ map (λ f. f.0) gs → NamesGo R (map (λ f. f.1) fs) (map (λ f. f.1) gs) → KindsAlike (fields fs) (fields gs)
    of_optional : {p q : List ℕ} → R p q → KindsAlike (optional p) (optional q)
    of_variants : {w : ℕ} {vs us : List (ℤ × List ℕ × List ℕ)} → IsDistinct bytes_eq (map (λ v. v.1) us) → VariantsAlike (length vs) vs us → KindsAlike (variants w vs) (variants w us)
    of_entries : {l m : Lengths} {keys : Keys} {k v h u : List ℕ} → LieIn l m → R k h → R v u → KindsAlike (entries l keys k v) (entries m keys h u)

-- y is x, or behind structs with one field without a name
pub data IsBehind (F : List ℕ → Option Form) : List ℕ → List ℕ → Type 0 where
  itself : {x : List ℕ} → IsBehind F x x
  within : {x y z : List ℕ} → HasKind F x (inner y) → IsBehind F y z → IsBehind F x z

-- F is the old definitions, G the new ones
module _ (F G : List ℕ → Option Form) (R : List ℕ → List ℕ → Type 0) where
  -- no JSON says a value of x; or what is behind x and y is of kinds that are alike
  pub data AreAlike (x y : List ℕ) : Type 0 where
    unsaid : {a : List ℕ} → IsBehind F x a → IsUnsayable F a → AreAlike x y
    alike : {a b : List ℕ} {kind other : Kind} → IsBehind F x a → IsBehind G y b → HasKind F a kind → HasKind G b other → KindsAlike R kind other → AreAlike x y

  -- and either both have no bytes or none has
  pub record GoAlike (x y : List ℕ) : Type 0 where
    pub alike : AreAlike x y
    pub forth : HasNoBytes F x → HasNoBytes G y
    pub back : HasNoBytes G y → HasNoBytes F x

-- ---- at places
module _ (old new : Plan) (pairs : List Pair) where
  -- P holds of the names at two places
  abbrev pub NamesAt : ℕ → ℕ → (List ℕ → List ℕ → Type 0) → Type 0
  NamesAt i j P = (x y : List ℕ) → IsAt (names_of old) i x → IsAt (names_of new) j y → P x y

  -- they are written alike, if those of all pairs are
  abbrev pub AlikeAt : ℕ → ℕ → Type 0
  AlikeAt i j = NamesAt i j (AreAlike (forms_of old) (forms_of new) (Paired old new pairs))

  abbrev pub GoAlikeAt : ℕ → ℕ → Type 0
  GoAlikeAt i j = NamesAt i j (GoAlike (forms_of old) (forms_of new) (Paired old new pairs))

  -- so are they, if they have these definitions, and the code found these kinds of them
  abbrev pub FoundAlike : ℕ → ℕ → Definition → Definition → Found → Found → Type 0
  FoundAlike i j d e a b = NamesAt i j (λ x y. forms_of old x ≡ Some (form_of d) → forms_of new y ≡ Some (form_of e) → IsKindOf (forms_of old) (names_of old) x (form_of d) a → IsKindOf (forms_of new) (names_of new) y (form_of e) b → AreAlike (forms_of old) (forms_of new) (Paired old new pairs) x y)

  -- the variant at an index has its discriminant and its name in the other enum too
  abbrev pub VariantAlike : ℕ → List (ℤ × List ℕ × List ℕ) → List (ℤ × List ℕ × List ℕ) → Type 0
  VariantAlike i vs us = (k : ℤ) (v p : List ℕ) → slice_get vs i ≡ Some (k, v, p) → (q : List ℕ) × IsVariant k v q us × Paired old new pairs p q

-- keys of both kinds are texts, or numbers of as many bytes
abbrev pub AreKeysAlike : KeyKind → KeyKind → Type 0
AreKeysAlike Text Text = ⊤
AreKeysAlike (Number a) (Number b) = a.size ≡ b.size
AreKeysAlike a b = ⊥
