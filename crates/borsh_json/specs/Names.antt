-- What is told of the names of a plan: each with a word for how its values are written.
use Rattle.std.specs.Prelude.{◌≡◌, ◌⊎◌, ℕ, List, [], ◌∷◌, ◌++◌, map, All, if◌then◌else◌, codes, Option, Some}
use Rattle.json.specs.Json.{Members, no_members, member, string, object, document}
use Rattle.borsh_plan.specs.declared.named.Named.{Named}
use Rattle.borsh_json.specs.{declared.kinds.Elements.{Elements}, declared.kinds.Kind.{Kind as Found}, Descents.{HasKeys}, Forms.{Form}, Ordered.{other, HasOrder}, Orders.{HasKeyOrder, KindHasOrder, KindTellsOrder, TellsNoOrder}, Places.{IsKindOf, IsListOf, IsUnsayable}, Table.{Kind, no_bytes, truth, whole, float, raw, utf8, byte_list, list, row, inner, fields, optional, variants, entries, HasKind}}

module _ (F : List ℕ → Option Form) where
  -- x is a set or map, of whose keys an order is told
  abbrev pub HasToldKeys : List ℕ → Type 0
  HasToldKeys x = (e : List ℕ) × (k : List ℕ) × HasKeys F x e k × (HasOrder F k other → ⊥)

  -- or no order is, if x is one
  abbrev pub HasOtherKeys : List ℕ → Type 0
  HasOtherKeys x = (e k : List ℕ) → HasKeys F x e k → HasOrder F k other

  -- the word of a list, and whether it is a set or map of whose keys an order is told
  abbrev pub IsListWord : List ℕ → List ℕ → List ℕ → Type 0
  IsListWord x list_word word = (HasToldKeys x × (word ≡ codes "sorted " ++ list_word)) ⊎ (HasOtherKeys x × (word ≡ list_word))

  -- the word of a kind of x; the keys of a map ascend
  abbrev pub IsKindWord : List ℕ → Kind → List ℕ → Type 0
  IsKindWord x no_bytes word = word ≡ codes "empty"
  IsKindWord x truth word = word ≡ codes "bool"
  IsKindWord x (whole n signed non_zero) word = word ≡ (if signed then codes "signed number" else codes "number")
  IsKindWord x (float f) word = word ≡ codes "float"
  IsKindWord x (raw n) word = word ≡ codes "bytes"
  IsKindWord x (utf8 l) word = word ≡ codes "text"
  IsKindWord x (byte_list l e) word = IsListWord x (codes "byte list") word
  IsKindWord x (list l e) word = IsListWord x (codes "list") word
  IsKindWord x (row xs) word = word ≡ codes "row"
  IsKindWord x (inner y) word = word ≡ codes "newtype"
  IsKindWord x (fields fs) word = word ≡ codes "object"
  IsKindWord x (optional y) word = word ≡ codes "option"
  IsKindWord x (variants w vs) word = word ≡ codes "enum"
  IsKindWord x (entries l keys k v) word = word ≡ codes "map"

  -- the word of a name: that of its kind, or `refused` where no JSON says a value of it
  abbrev pub IsWord : List ℕ → List ℕ → Type 0
  IsWord x word = ((kind : Kind) × HasKind F x kind × IsKindWord x kind word) ⊎ (IsUnsayable F x × (word ≡ codes "refused"))

-- a word of each name of which the code finds this kind
abbrev pub IsFoundWord : Found → List ℕ → Type 0
IsFoundWord kind word =
    (F : List ℕ → Option Form) (ns : List Named) (x : List ℕ) (f : Form)
    → IsKindOf F ns x f kind → KindHasOrder F ns x kind → KindTellsOrder F x kind → IsWord F x word

-- a word of each list of which the code finds these elements
abbrev pub IsFoundListWord : Elements → List ℕ → Type 0
IsFoundListWord es word =
    (F : List ℕ → Option Form) (ns : List Named) (x : List ℕ) (f : Form)
    → IsListOf F ns x f es.at → HasKeyOrder F ns x es.order → TellsNoOrder F x es.order → IsWord F x word

-- a member for each name, which is its word
abbrev pub word_members : List (List ℕ × List ℕ) → Members
word_members [] = no_members
word_members (p ∷ ps) = member p.0 (string p.1) (word_members ps)

-- the text is a JSON object with a member for each of the names, in their order, which is its word
abbrev pub TellsNames : (List ℕ → Option Form) → List Named → List ℕ → Type 0
TellsNames F ns text =
    (ps : List (List ℕ × List ℕ)) × (document text ≡ Some (object (word_members ps))) × (map (λ p. p.0) ps ≡ map (λ n. n.name.now) ns) × All (λ p. IsWord F p.0 p.1) ps
