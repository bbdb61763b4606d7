-- JSON of a name, in which the elements of sets and the keys of maps ascend, where names and definitions tell their order.
use Rattle.std.specs.Prelude.{◌≡◌, ◌⊎◌, ℕ, suc, ◌≤◌, ◌+◌, ◌*◌, List, [], ◌∷◌, ◌++◌, length, codes, Option, Some, slice_get}
use Rattle.json.specs.Json.{Json, array, object, Items, Members, no_members, member, document}
use Rattle.borsh_walks.specs.Container.{Member}
use Rattle.borsh_json.specs.{Descents.{HasKeys}, Forms.{Form, shapes}, Found.{IsSet}, Ordered.{a_value, IsAtLeast}, Represents.{HaveBytes}, Table.{Lengths, Kind, byte_list, list, row, inner, fields, optional, variants, entries, HasKind, Part, list_parts, field_parts, IsHex, Says}}

-- ---- the parts of JSON, by their paths

-- a step to a part: a field by its name; one without a name, or the key or the value of an entry, by its place; an element or entry by its index; what a variant has
pub data Step : Type 0 where
  field : List ℕ → Step
  place : ℕ → Step
  element : ℕ → Step
  variant : List ℕ → Step

-- in JSON of this kind these steps lead to the part that so many are in front of; the entries of an object count in the order of their keys
abbrev pub AreSteps : Kind → Json → ℕ → List Step → Type 0
AreSteps (byte_list l e) i n steps = steps ≡ element n ∷ []
AreSteps (list l e) i n steps = steps ≡ element n ∷ []
AreSteps (row xs) i n steps = steps ≡ place n ∷ []
AreSteps (inner x) i n steps = steps ≡ place n ∷ []
AreSteps (fields fs) i n steps = (f : List ℕ × List ℕ) × (slice_get fs n ≡ Some f) × (steps ≡ field f.0 ∷ [])
AreSteps (optional x) i n steps = steps ≡ variant (codes "Some") ∷ []
AreSteps (variants w vs) i n steps = (v : List ℕ) × (value : Json) × (i ≡ object (member v value no_members)) × (steps ≡ variant v ∷ [])
AreSteps (entries l keys k v) i n steps = (m : ℕ) × (((n ≡ 2 * m) × (steps ≡ element m ∷ place 0 ∷ [])) ⊎ ((n ≡ 2 * m + 1) × (steps ≡ element m ∷ place 1 ∷ [])))
AreSteps kind i n steps = ⊥

module _ (F : List ℕ → Option Form) where
  -- JSON of this kind says the own bytes and then parts that begin with these; or they are the first fields of a struct, which its object has
  abbrev pub BeginsParts : Kind → Json → List ℕ → List Part → Type 0
  BeginsParts kind i own ps =
      ((more : List Part) × Says F kind i own (ps ++ more))
      ⊎ ((gs : List (List ℕ × List ℕ)) × (hs : List (List ℕ × List ℕ)) × (ms : Members) × (kind ≡ fields (gs ++ hs)) × (own ≡ []) × (i ≡ object ms) × (field_parts gs ms ≡ Some ps))

  module _ (root : List ℕ) (j : Json) where
    -- behind these bytes, inside of so many others, is the part that the path leads to: it is the whole; or it is a part of one, and the bytes are those before that one,
    -- its own, and those of its parts before this one
    pub data IsReached : ℕ → List Step → List ℕ → Part → Type 0 where
      whole_value : IsReached 0 [] [] (root, j)
      part_of : {n : ℕ} {path : List Step} {before mid x : List ℕ} {i : Json} {ps : List Part} {p : Part} (kind : Kind) (own : List ℕ) (steps : List Step) → IsReached n path before (x, i) → HasKind F x kind → BeginsParts kind i own (ps ++ p ∷ []) → HaveBytes F ps mid → AreSteps kind i (length ps) steps → IsReached (suc n) (path ++ steps) (before ++ (own ++ mid)) p

  -- P holds of the JSON of each part that a path leads to
  abbrev pub IsEach : (List ℕ → Json → Type 0) → List ℕ → Json → Type 0
  IsEach P root j = (n : ℕ) (path : List Step) (before x : List ℕ) (i : Json) → IsReached root j n path before (x, i) → P x i

  -- ---- what ascends

  -- of a set of bytes, their digits: the byte at the index isn't greater than the one before it
  abbrev pub DigitsFall : List ℕ → Json → ℕ → Type 0
  DigitsFall x i index = (l : Lengths) × (e : List ℕ) × (before : List ℕ) × (b : ℕ) × (c : ℕ) × (after : List ℕ) × HasKind F x (byte_list l e) × IsSet F x e × IsHex i (before ++ b ∷ c ∷ after) × (index ≡ suc (length before)) × (c ≤ b)

  -- of a set or map x, an array: the elements before the index and at it have these bytes, and the key of the second isn't above that of the first, as far as their order is told
  pub record ItemsFall (x : List ℕ) (i : Json) (index : ℕ) : Type 0 where
    pub e : List ℕ
    pub k : List ℕ
    pub items : Items
    pub before : List Part
    pub left : Json
    pub right : Json
    pub after : List Part
    pub first : List ℕ
    pub second : List ℕ
    pub keys : HasKeys F x e k
    pub is_array : i ≡ array items
    pub parts : list_parts e items ≡ before ++ (e, left) ∷ (e, right) ∷ after
    pub index_is : index ≡ suc (length before)
    pub left_says : HaveBytes F ((e, left) ∷ []) first
    pub right_says : HaveBytes F ((e, right) ∷ []) second
    pub falls : IsAtLeast F (a_value k ∷ []) (first ++ second) second

  -- an element of a set or map isn't above the one before it
  abbrev pub Falls : List ℕ → Json → ℕ → Type 0
  Falls x i index = DigitsFall x i index ⊎ ItemsFall x i index

  -- JSON of the name, in which no path leads to a set or map of which an element falls; the keys of objects ascend by the table
  abbrev pub InOrder : List ℕ → Json → Type 0
  InOrder = IsEach (λ x i. (index : ℕ) → Falls x i index → ⊥)

  -- so is all JSON of the root that says bytes
  abbrev pub NeedsNoCheck : List ℕ → Type 0
  NeedsNoCheck root = (j : Json) (bytes : List ℕ) → HaveBytes F ((root, j) ∷ []) bytes → InOrder root j

  -- the text is JSON that says the bytes, these are a member of the root, and what has to ascend does
  abbrev pub TextRepresents : List ℕ → List ℕ → List ℕ → Type 0
  TextRepresents root text bytes = (j : Json) × (document text ≡ Some j) × HaveBytes F ((root, j) ∷ []) bytes × Member (shapes F) root bytes × InOrder root j

  -- some text is such JSON of the bytes
  abbrev pub IsRepresented : List ℕ → List ℕ → Type 0
  IsRepresented root bytes = (text : List ℕ) × TextRepresents root text bytes
