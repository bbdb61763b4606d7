-- What is known of a plan.
use Rattle.std.proofs.Common.{◌≡◌, ℕ, ◌<◌, List, length, Some, subst}
use Rattle.std.specs.Prelude.{Option, String, slice_get}
use Rattle.std.specs.Global.{Global}
use Rattle.std.specs.BTreeMap.{BTreeMap, get_by_text}
use Rattle.borsh_walks.specs.declared.definition.Definition.{Definition}
use Rattle.borsh_walks.specs.Container.{Reached, Shape}
use Rattle.borsh_walks.specs.Definitions.{definitions_in}
use Rattle.borsh_plan.specs.declared.plan.Plan.{Plan}
use Rattle.borsh_plan.specs.Names.{name_of, name_at, found_definition, shape_at}
use Rattle.borsh_plan.specs.Plan.{IsPlanOf, definitions_of, map_of, names_of, parts_of, planned, root_of}
use Rattle.borsh_plan.proofs.Places as places

module _ (p : Plan) where
  pub root_there : (0 < length (names_of p)) × (name_at (names_of p) 0 ≡ root_of p)
  root_there = places.root_there (map_of p) (root_of p) (names_of p) (parts_of p) (planned p)

  pub looked_up : (x : List ℕ) (i : ℕ) → name_of (names_of p) i ≡ Some x → get_by_text (map_of p) x ≡ found_definition (slice_get (names_of p) i)
  looked_up = (planned p).looked_up

  pub defined : (x : List ℕ) (i : ℕ) → name_of (names_of p) i ≡ Some x → definitions_of p x ≡ shape_at (names_of p) i
  defined = places.defined (map_of p) (root_of p) (names_of p) (parts_of p) (planned p)

  pub defined_at : (at : ℕ) → at < length (names_of p) → definitions_of p (name_at (names_of p) at) ≡ shape_at (names_of p) at
  defined_at = places.defined_at (map_of p) (root_of p) (names_of p) (parts_of p) (planned p)

  -- the root leads to each name, and each that it leads to has a place
  pub reached : (x : List ℕ) (i : ℕ) → name_of (names_of p) i ≡ Some x → Reached (definitions_of p) (root_of p) x
  reached = places.reached (map_of p) (root_of p) (names_of p) (parts_of p) (planned p)

  pub has_place : {x : List ℕ} → Reached (definitions_of p) (root_of p) x → (i : ℕ) × (name_of (names_of p) i ≡ Some x)
  has_place = places.has_place (map_of p) (root_of p) (names_of p) (parts_of p) (planned p)

  -- the place of a name
  pub place : List ℕ → Option ℕ
  place = places.find (names_of p)

  pub sound : (x : List ℕ) (i : ℕ) → place x ≡ Some i → name_of (names_of p) i ≡ Some x
  unfolding place
  sound = places.find_sound (names_of p)

  pub back : (x : List ℕ) (i : ℕ) → name_of (names_of p) i ≡ Some x → place x ≡ Some i
  unfolding place
  back = places.find_back (names_of p) (planned p).once

-- what holds of a plan's definitions and root holds of those that it was made of
pub of_plan : (Q : (List ℕ → Option Shape) → List ℕ → Type 0) {m : BTreeMap (String Global) Definition} {x : List ℕ} {p : Plan} → IsPlanOf m x p → Q (definitions_of p) (root_of p) → Q (definitions_in m) x
of_plan Q {m = m} {x = x} {p = p} h q = subst (λ (m : BTreeMap (String Global) Definition). Q (definitions_in m) x) h.map (subst (λ y. Q (definitions_of p) y) h.root q)
