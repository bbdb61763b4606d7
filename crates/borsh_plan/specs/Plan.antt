-- What a plan is of. No other file names its private fields.
use Rattle.std.specs.Prelude.{◌≡◌, ◌<◌, ℕ, Bool, List, length, Option, String, Vec}
use Rattle.std.specs.{Global.Global, BTreeMap.BTreeMap}
use Rattle.borsh_walks.specs.{declared.definition.Definition.Definition, Container.Shape, Definitions.definitions_in}
use Rattle.borsh_plan.specs.{declared.named.Named.Named, declared.plan.Plan.Plan, Names.IsPlanned, Names.name_at, Sizes.known_size, Zeros.ZeroAt}

-- the root, and the definitions that are looked up
abbrev pub root_of : Plan → List ℕ
root_of p = p.names.root.now

abbrev pub map_of : Plan → BTreeMap (String Global) Definition
map_of p = p.names.map.now

abbrev pub definitions_of : Plan → List ℕ → Option Shape
definitions_of p = definitions_in (map_of p)

-- the names that the root leads to, and of each the places of those in its definition
abbrev pub names_of : Plan → List Named
names_of p = p.names.names.items

abbrev pub parts_of : Plan → List (Vec ℕ Global)
parts_of p = p.names.parts.items

-- they are so
abbrev pub planned : (p : Plan) → IsPlanned (map_of p) (root_of p) (names_of p) (parts_of p)
planned p = p.names.planned

-- the plan is of that root and these definitions
pub record IsPlanOf (m : BTreeMap (String Global) Definition) (x : List ℕ) (p : Plan) : Type 0 where
  pub root : root_of p ≡ x
  pub map : map_of p ≡ m

-- the size of the values of the name at a place, as far as it is known
abbrev pub SizeAt : Plan → ℕ → ℕ → Type 0
SizeAt p at size = at < length (names_of p) → size ≡ known_size (definitions_of p) (name_at (names_of p) at)

-- whether they have no bytes
abbrev pub IsZeroAt : Plan → ℕ → Bool → Type 0
IsZeroAt p at zero = at < length (names_of p) → ZeroAt (definitions_of p) (names_of p) at zero
