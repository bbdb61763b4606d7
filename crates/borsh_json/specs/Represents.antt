-- Which bytes a JSON text says, by the definitions of a container.
use Rattle.std.specs.Prelude.{◌≡◌, ℕ, List, [], ◌∷◌, ◌++◌, Option, Some}
use Rattle.json.specs.Json.{Json, document}
use Rattle.borsh_walks.specs.Container.{Member}
use Rattle.borsh_json.specs.{Forms.{Form, shapes}, Table.{Kind, HasKind, Part, Says}}

module _ (F : List ℕ → Option Form) where
  -- JSON of the name says these bytes, and then those of its parts
  abbrev pub SaysFirst : List ℕ → Json → List ℕ → List Part → Type 0
  SaysFirst x j own ps = (kind : Kind) × HasKind F x kind × Says F kind j own ps

  -- the parts have these bytes, one after another: those that the first says, and then those of its own parts and of the others
  pub data HaveBytes : List Part → List ℕ → Type 0 where
    none_left : HaveBytes [] []
    next_part : {x bs : List ℕ} {j : Json} {ps : List Part} (kind : Kind) (own : List ℕ) (qs : List Part) → HasKind F x kind → Says F kind j own qs → HaveBytes (qs ++ ps) bs → HaveBytes ((x, j) ∷ ps) (own ++ bs)

  -- JSON of the name says some bytes
  abbrev pub SaysSome : List ℕ → Json → Type 0
  SaysSome x j = (bytes : List ℕ) × HaveBytes ((x, j) ∷ []) bytes

  -- the text is JSON that says the bytes, and these are a member of the root
  abbrev pub TextSays : List ℕ → List ℕ → List ℕ → Type 0
  TextSays root text bytes = (j : Json) × (document text ≡ Some j) × HaveBytes ((root, j) ∷ []) bytes × Member (shapes F) root bytes
