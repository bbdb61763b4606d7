-- When a name of the old definitions goes together with one of the new: each of its members is one of the other, if that holds of their parts.
use Rattle.std.specs.Prelude.{◌≡◌, ℕ, ◌+◌, ◌<◌, ◌≤◌, ℤ, List, [], ◌∷◌, ◌++◌, length, map, Option, Some, None, slice_get, String, string_bytes}
use Rattle.std.specs.Global.{Global}
use Rattle.borsh_walks.specs.Container.{Shape, primitive, sequence, product, choice, IsListedVariant}
use Rattle.borsh_values.specs.Free.{FreeSize}

-- a definition that no bytes are a value of, whatever its parts are
abbrev pub HasNone : Shape → Type 0
HasNone (primitive n) = ⊥
HasNone (sequence w lo hi e) = hi < lo
HasNone (product ps) = ⊥
HasNone (choice w vs) = vs ≡ []

-- the variants of a definition of the code, without their names
abbrev pub unnamed : List (ℤ × String Global × String Global) → List (ℤ × List ℕ)
unnamed vs = map {A = ℤ × String Global × String Global} {B = ℤ × List ℕ} (λ v. (v.0, string_bytes v.2)) vs

-- R says which pairs of names are taken to go together
module _ (R : List ℕ → List ℕ → Type 0) where
  -- as many names, each with the one in its place
  pub record NamesGo (xs ys : List (List ℕ)) : Type 0 where
    pub long : length xs ≡ length ys
    pub each : (i : ℕ) (x y : List ℕ) → slice_get xs i ≡ Some x → slice_get ys i ≡ Some y → R x y

  -- the variant goes with one of the same discriminant
  abbrev pub VariantGoes : ℤ → List ℕ → List (ℤ × List ℕ) → Type 0
  VariantGoes k p us = (q : List ℕ) × IsListedVariant k q us × R p q

  -- so does each of the first n variants
  abbrev pub VariantsGo : ℕ → List (ℤ × List ℕ) → List (ℤ × List ℕ) → Type 0
  VariantsGo n vs us = (i : ℕ) (k : ℤ) (p : List ℕ) → i < n → slice_get vs i ≡ Some (k, p) → VariantGoes k p us

  -- the definitions go together, if their parts do
  abbrev pub ShapesGo : Shape → Shape → Type 0
  ShapesGo (primitive m) (primitive n) = m ≡ n
  ShapesGo (sequence w lo hi e) (sequence v l h f) = (w ≡ v) × (l ≤ lo) × (hi ≤ h) × (0 < hi → R e f)
  ShapesGo (product ps) (product qs) = NamesGo ps qs
  ShapesGo (choice w vs) (choice v us) = (w ≡ v) × VariantsGo (length vs) vs us
  ShapesGo c d = ⊥

-- C gives the old definitions, D the new ones
module _ (C : List ℕ → Option Shape) where
  -- values of the names xs are any n bytes and then values of the names ys: names of one length are passed, and of structs and tuples the parts are taken
  pub data PassesTo : List (List ℕ) → ℕ → List (List ℕ) → Type 0 where
    stops : {xs : List (List ℕ)} → PassesTo xs 0 xs
    passes : {x : List ℕ} {xs ys : List (List ℕ)} {n : ℕ} (k : ℕ) → FreeSize C x k → PassesTo xs n ys → PassesTo (x ∷ xs) (k + n) ys
    opens : {x : List ℕ} {ps xs ys : List (List ℕ)} {n : ℕ} → C x ≡ Some (product ps) → PassesTo (ps ++ xs) n ys → PassesTo (x ∷ xs) n ys

module _ (C D : List ℕ → Option Shape) (R : List ℕ → List ℕ → Type 0) where
  -- the two have definitions that go together
  pub record DefinitionsGo (x y : List ℕ) : Type 0 where
    pub old_shape : Shape
    pub new_shape : Shape
    pub old : C x ≡ Some old_shape
    pub new : D y ≡ Some new_shape
    pub go : ShapesGo R old_shape new_shape

  -- of the names xs and ys those before xs2 and ys2 go together: as many bytes, and then two that do, and so on
  pub data GoUntil (xs ys : List (List ℕ)) : List (List ℕ) → List (List ℕ) → Type 0 where
    begins : GoUntil xs ys xs ys
    onward : {x y : List ℕ} {xs2 ys2 xs3 ys3 : List (List ℕ)} (n : ℕ) → GoUntil xs ys xs2 ys2 → PassesTo C xs2 n (x ∷ xs3) → PassesTo D ys2 n (y ∷ ys3) → DefinitionsGo x y → GoUntil xs ys xs3 ys3

  -- up to their ends
  pub record GoThrough (xs ys : List (List ℕ)) : Type 0 where
    pub bytes : ℕ
    pub old_left : List (List ℕ)
    pub new_left : List (List ℕ)
    pub before : GoUntil xs ys old_left new_left
    pub old : PassesTo C old_left bytes []
    pub new : PassesTo D new_left bytes []

  -- a name of the old definitions goes together with one of the new
  pub data Goes (x y : List ℕ) : Type 0 where
    without_definition : C x ≡ None → Goes x y
    without_members : {d : Shape} → C x ≡ Some d → HasNone d → Goes x y
    of_one_size : (n : ℕ) → FreeSize C x n → FreeSize D y n → Goes x y
    by_definition : DefinitionsGo x y → Goes x y
    by_parts : GoThrough (x ∷ []) (y ∷ []) → Goes x y
