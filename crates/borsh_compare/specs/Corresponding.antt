-- When the definitions of two roots correspond part by part, which is never answered by `not known`.
use Rattle.std.specs.Prelude.{◌≡◌, ◌⊎◌, ℕ, ◌<◌, ◌≤◌, ℤ, Bool, false, List, length, Option, Some, slice_get}
use Rattle.borsh_walks.specs.Container.{Shape, primitive, sequence, product, choice}
use Rattle.borsh_plan.specs.declared.plan.Plan.{Plan}
use Rattle.borsh_plan.specs.Names.{name_of, parts_in, shape_at}
use Rattle.borsh_plan.specs.Plan.{definitions_of, names_of, root_of}
use Rattle.borsh_compare.specs.Together.{NamesGo}
use Rattle.borsh_compare.specs.declared.pairs.Pair.{Pair}

-- pairs of names
abbrev pub Listing : Type 0
Listing = List (List ℕ × List ℕ)

abbrev pub Lists : Listing → List ℕ → List ℕ → Type 0
Lists S x y = (k : ℕ) × (slice_get S k ≡ Some (x, y))

-- R says which names correspond
module _ (R : List ℕ → List ℕ → Type 0) where
  -- for the variant at an index the other enum has one of the same discriminant: at that index too, or else only this one
  pub record VariantCorresponds (us : List (ℤ × List ℕ)) (i : ℕ) (k : ℤ) (p : List ℕ) : Type 0 where
    pub index : ℕ
    pub part : List ℕ
    pub there : slice_get us index ≡ Some (k, part)
    pub one : (index ≡ i) ⊎ ((j : ℕ) (q : List ℕ) → slice_get us j ≡ Some (k, q) → q ≡ part)
    pub go : R p part

  abbrev pub VariantsCorrespond : List (ℤ × List ℕ) → List (ℤ × List ℕ) → Type 0
  VariantsCorrespond vs us = (i : ℕ) (k : ℤ) (p : List ℕ) → slice_get vs i ≡ Some (k, p) → VariantCorresponds us i k p

  -- definitions of one kind, whose parts correspond
  abbrev pub ShapesCorrespond : Shape → Shape → Type 0
  ShapesCorrespond (primitive m) (primitive n) = m ≡ n
  ShapesCorrespond (sequence w lo hi e) (sequence v l h f) = (w ≡ v) × (l ≤ lo) × (hi ≤ h) × (0 < hi → R e f)
  ShapesCorrespond (product ps) (product qs) = NamesGo R ps qs
  ShapesCorrespond (choice w vs) (choice v us) = (w ≡ v) × VariantsCorrespond vs us
  ShapesCorrespond c d = ⊥

-- the name y has a definition that corresponds to that of x, if x has one
abbrev pub NamesCorrespond : (List ℕ → Option Shape) → (List ℕ → Option Shape) → (List ℕ → List ℕ → Type 0) → List ℕ → List ℕ → Type 0
NamesCorrespond C D R x y = (c : Shape) → C x ≡ Some c → (d : Shape) × (D y ≡ Some d) × ShapesCorrespond R c d

-- some pairs of names, fewer than are compared at most, are the roots', and with each pair those of its parts
pub record RootsCorrespond (old new : Plan) : Type 0 where
  pub pairs : Listing
  pub few : length pairs < 1048576
  pub roots : Lists pairs (root_of old) (root_of new)
  pub each : (x y : List ℕ) → Lists pairs x y → NamesCorrespond (definitions_of old) (definitions_of new) (Lists pairs) x y

-- ---- at places
module _ (old new : Plan) (S : Listing) where
  -- the names at two places are listed
  pub record PairIn (i j : ℕ) : Type 0 where
    pub old_name : List ℕ
    pub new_name : List ℕ
    pub old_there : name_of (names_of old) i ≡ Some old_name
    pub new_there : name_of (names_of new) j ≡ Some new_name
    pub listed : Lists S old_name new_name

  -- so are those of all pairs
  abbrev pub Inside : List Pair → Type 0
  Inside pairs = (i : ℕ) (p : Pair) → slice_get pairs i ≡ Some p → PairIn p.old p.new

  -- they stay so, and `false` is answered only of too many
  abbrev pub StaysInside : List Pair → List Pair → Bool → Type 0
  StaysInside before after b = Inside before → Inside after × (b ≡ false → 1048576 ≤ length after)

  -- so are the parts at two indexes
  pub record PartIn (i j a b : ℕ) : Type 0 where
    pub old_name : List ℕ
    pub new_name : List ℕ
    pub old_there : slice_get (parts_in (shape_at (names_of old) i)) a ≡ Some old_name
    pub new_there : slice_get (parts_in (shape_at (names_of new) j)) b ≡ Some new_name
    pub listed : Lists S old_name new_name

  -- the definitions at two places correspond
  pub record DefinitionsIn (i j : ℕ) : Type 0 where
    pub old_shape : Shape
    pub new_shape : Shape
    pub old_there : shape_at (names_of old) i ≡ Some old_shape
    pub new_there : shape_at (names_of new) j ≡ Some new_shape
    pub correspond : ShapesCorrespond (Lists S) old_shape new_shape

  -- so do they, if the first is one
  abbrev pub CorrespondAt : ℕ → ℕ → Type 0
  CorrespondAt i j = (c : Shape) → shape_at (names_of old) i ≡ Some c → DefinitionsIn i j

-- the variant at an index has the discriminant: the first index, if its variant has it
abbrev pub IsIndexFor : List (ℤ × List ℕ) → ℕ → ℤ → ℕ → Type 0
IsIndexFor us i k at = (q : List ℕ) × (slice_get us at ≡ Some (k, q)) × ((at ≡ i) ⊎ ((r : List ℕ) → slice_get us i ≡ Some (k, r) → ⊥))
