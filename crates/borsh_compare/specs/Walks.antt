-- What the walk over pairs of names keeps.
use Rattle.std.specs.Prelude.{◌≡◌, ℕ, List, [], ◌∷◌, map, reverse, Option, Some, None, String, slice_get}
use Rattle.std.specs.Global.{Global}
use Rattle.std.specs.BTreeMap.{BTreeMap}
use Rattle.borsh_walks.specs.Container.{Shape, Member}
use Rattle.borsh_walks.specs.Definitions.{definitions_in}
use Rattle.borsh_walks.specs.declared.definition.Definition.{Definition}
use Rattle.borsh_plan.specs.declared.plan.Plan.{Plan}
use Rattle.borsh_plan.specs.declared.named.Named.{Named}
use Rattle.borsh_plan.specs.Names.{name_at, name_of, parts_in, shape_at}
use Rattle.borsh_plan.specs.Plan.{definitions_of, map_of, names_of, root_of}
use Rattle.borsh_values.specs.Free.{FreeSize}
use Rattle.borsh_compare.specs.Together.{ShapesGo, PassesTo, Goes}
use Rattle.borsh_compare.specs.declared.pairs.Pair.{Pair}
use Rattle.borsh_compare.specs.declared.through.Next.{Next}

-- what is in the list stays in its place
abbrev pub Keeps : List Pair → List Pair → Type 0
Keeps old new = (i : ℕ) (p : Pair) → slice_get old i ≡ Some p → slice_get new i ≡ Some p

-- the list has a pair of these places
pub record HasPair (pairs : List Pair) (i j : ℕ) : Type 0 where
  pub index : ℕ
  pub pair : Pair
  pub there : slice_get pairs index ≡ Some pair
  pub old : pair.old ≡ i
  pub new : pair.new ≡ j

-- the list has the pair of these names
pub record IsPaired (ns ms : List Named) (pairs : List Pair) (x y : List ℕ) : Type 0 where
  pub old_place : ℕ
  pub new_place : ℕ
  pub has : HasPair pairs old_place new_place
  pub old : name_of ns old_place ≡ Some x
  pub new : name_of ms new_place ≡ Some y

-- the pairs of names of a list, by two plans
abbrev pub Paired : Plan → Plan → List Pair → List ℕ → List ℕ → Type 0
Paired old new pairs = IsPaired (names_of old) (names_of new) pairs

-- the part at the index a of the old name at i, and that at b of the new name at j, are paired
pub record PartGoes (old new : Plan) (pairs : List Pair) (i j a b : ℕ) : Type 0 where
  pub old_name : List ℕ
  pub new_name : List ℕ
  pub old_there : slice_get (parts_in (shape_at (names_of old) i)) a ≡ Some old_name
  pub new_there : slice_get (parts_in (shape_at (names_of new) j)) b ≡ Some new_name
  pub paired : Paired old new pairs old_name new_name

-- the definitions at two places go together, if the pairs of the list do
pub record DefinitionsGoAt (old new : Plan) (pairs : List Pair) (i j : ℕ) : Type 0 where
  pub old_shape : Shape
  pub new_shape : Shape
  pub old_there : shape_at (names_of old) i ≡ Some old_shape
  pub new_there : shape_at (names_of new) j ≡ Some new_shape
  pub go : ShapesGo (Paired old new pairs) old_shape new_shape

-- any bytes of one length are the values of the name at the first place, and the same of the other
abbrev pub HaveOneSize : Plan → Plan → ℕ → ℕ → Type 0
HaveOneSize old new i j = (n : ℕ) × FreeSize (definitions_of old) (name_at (names_of old) i) n × FreeSize (definitions_of new) (name_at (names_of new) j) n

-- so do the names there
abbrev pub GoAt : Plan → Plan → List Pair → ℕ → ℕ → Type 0
GoAt old new pairs i j = (x y : List ℕ) → name_of (names_of old) i ≡ Some x → name_of (names_of new) j ≡ Some y → Goes (definitions_of old) (definitions_of new) (Paired old new pairs) x y

-- the names that are to be read, that of the last place first
abbrev pub names_from : Plan → List ℕ → List (List ℕ)
names_from p places = map (λ i. name_at (names_of p) i) (reverse places)

-- the name at a place, and then others; none where there is no place
abbrev pub from_place : Plan → Option ℕ → List ℕ → List (List ℕ)
from_place p None places = []
from_place p (Some i) places = name_at (names_of p) i ∷ names_from p places

-- the names before lead to what was found
abbrev pub Finds : Plan → List ℕ → List ℕ → Next → Type 0
Finds p before after n = PassesTo (definitions_of p) (names_from p before) n.bytes (from_place p n.at after)

-- each member of x by the definitions m is one of y by n
abbrev pub IsStillRead : BTreeMap (String Global) Definition → List ℕ → BTreeMap (String Global) Definition → List ℕ → Type 0
IsStillRead m x n y = (bytes : List ℕ) → Member (definitions_in m) x bytes → Member (definitions_in n) y bytes

-- all members of the old root are members of the new one
abbrev pub Includes : Plan → Plan → Type 0
Includes old new = IsStillRead (map_of old) (root_of old) (map_of new) (root_of new)
