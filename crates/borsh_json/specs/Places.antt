-- Names by their places in a plan, and the kinds that the code finds of them.
use Rattle.std.specs.{Prelude.{◌≡◌, ℕ, ◌<◌, List, map, length, Option, Some, None, MatchOption, String, string_bytes}, Global.{Global}, Borrow.{Bor}, Float.{Format}, Str.{bytes_eq}, List.{IsDistinct}}
use Rattle.json.specs.Json.{Json}
use Rattle.borsh_walks.specs.{Container.{references}, declared.definition.Definition.{Definition}}
use Rattle.borsh_plan.specs.{declared.named.Named.{Named}, Names.{name_of}}
use Rattle.borsh_values.specs.Nodes.{packed_size}
use Rattle.borsh_json.specs.{declared.error.Refusal.{Refusal}, declared.error.Refusal.TheVariants.{RepeatedName as NameTwice, EmptyElements as NoElements}, declared.kinds.Flaw.{Flaw}, declared.kinds.Flaw.TheVariants.{RepeatedName, EmptyElements}, declared.kinds.Kind.{Kind as Found}, declared.kinds.Kind.TheVariants.{Number, Bool as Truth, Text, Bytes, Float, ByteList, Numbers, List as Elements, Map, Row, Newtype, Object, Optional, Choice, Refused}, declared.kinds.KeyKind.{KeyKind}, declared.kinds.KeyKind.TheVariants.{Text as TextKeys, Number as NumberKeys}, Forms.{Form, primitive, sequence, form_of, shape_of_form, shapes, HasNoBytes, field_bytes, variant_bytes}, Table.{Lengths, Keys, texts, numbers, Kind, truth, whole, float, float_size, raw, utf8, byte_list, list, row, inner, fields, optional, variants, entries, HasKind, HasEmptyElements, RepeatsName, Part, Says}}

-- the name at the place is x
abbrev pub IsAt : List Named → ℕ → List ℕ → Type 0
IsAt ns i x = name_of ns i ≡ Some x

-- the width of the prefix and the range of lengths of a sequence; other definitions have none
abbrev pub lengths_of : Form → Lengths
lengths_of (sequence w lo hi e) = record { width = w; least = lo; greatest = hi }
lengths_of f = record { width = 0; least = 1; greatest = 0 }

-- the refusal is for this flaw
abbrev pub IsRefusalOf : Flaw → Refusal → Type 0
IsRefusalOf (RepeatedName name) refusal = (text : String Global) × (refusal ≡ NameTwice text) × (string_bytes text ≡ name.now)
IsRefusalOf EmptyElements refusal = refusal ≡ NoElements

module _ (F : List ℕ → Option Form) where
  -- no JSON says a value of the name
  abbrev pub IsUnsayable : List ℕ → Type 0
  IsUnsayable x = (kind : Kind) (j : Json) (own : List ℕ) (ps : List Part) → HasKind F x kind → Says F kind j own ps → ⊥

  -- why no JSON says a value of the name
  abbrev pub HasFlaw : List ℕ → Flaw → Type 0
  HasFlaw x (RepeatedName name) = RepeatsName F x name.now
  HasFlaw x EmptyElements = HasEmptyElements F x

  module _ (ns : List Named) where
    -- a list of the elements whose name is at the place
    abbrev pub IsListOf : List ℕ → Form → ℕ → Type 0
    IsListOf x f at = (e : List ℕ) × IsAt ns at e × HasKind F x (list (lengths_of f) e)

    -- the kind of the keys of an object
    abbrev pub AreKeysOf : List ℕ → Form → KeyKind → Keys → Type 0
    AreKeysOf k g TextKeys keys = (keys ≡ texts) × HasKind F k (utf8 (lengths_of g))
    AreKeysOf k g (NumberKeys n) keys = (keys ≡ numbers n.size) × HasKind F k (whole n.size n.is_signed n.is_non_zero)

    -- what the code found of a name with this definition is its kind
    abbrev pub IsKindOf : List ℕ → Form → Found → Type 0
    IsKindOf x f (Number n) = HasKind F x (whole n.size n.is_signed n.is_non_zero)
    IsKindOf x f Truth = HasKind F x truth
    IsKindOf x f Text = HasKind F x (utf8 (lengths_of f))
    IsKindOf x f (Bytes n) = HasKind F x (raw n)
    IsKindOf x f (Float n) = (g : Format) × (n ≡ float_size g) × HasKind F x (float g)
    IsKindOf x f (ByteList es) = (e : List ℕ) × IsAt ns es.at e × HasKind F x (byte_list (lengths_of f) e)
    IsKindOf x f (Numbers es) = IsListOf x f es.at × (0 < es.size) × ((e : List ℕ) → IsAt ns es.at e → F e ≡ Some (primitive es.size))
    IsKindOf x f (Elements es) = IsListOf x f es.at × ((e : List ℕ) → IsAt ns es.at e → packed_size (shapes F e) ≡ 0)
    IsKindOf x f (Map es order) = (k : List ℕ) × (v : List ℕ) × (keys : Keys) × IsAt ns es.key k × IsAt ns es.value v × HasKind F x (entries (lengths_of f) keys k v) × AreKeysOf k (form_of es.key_definition.now) es.key_kind keys
    IsKindOf x f (Row n) = HasKind F x (row (references (shape_of_form f))) × (length (references (shape_of_form f)) ≡ n)
    IsKindOf x f (Newtype at) = (p : List ℕ) × IsAt ns at p × HasKind F x (inner p)
    IsKindOf x f (Object fs) = HasKind F x (fields (map field_bytes fs.now.items)) × IsDistinct bytes_eq (map (λ f. string_bytes f.0) fs.now.items)
    IsKindOf x f (Optional at) = (p : List ℕ) × IsAt ns at p × HasKind F x (optional p)
    IsKindOf x f (Choice w vs) = HasKind F x (variants w (map variant_bytes vs.now.items)) × IsDistinct bytes_eq (map (λ v. string_bytes v.1) vs.now.items)
    IsKindOf x f (Refused flaw) = IsUnsayable x × HasFlaw x flaw

    -- what was found of the name at a place: its definition and its kind, if it has bytes; and nothing only where it has no definition
    abbrev pub IsKindAt : ℕ → Option (Bor Definition × Found) → Type 0
    IsKindAt i found = (x : List ℕ) → IsAt ns i x → (HasNoBytes F x → ⊥) → MatchOption found (F x ≡ None) (λ r. (F x ≡ Some (form_of r.0.now)) × IsKindOf x (form_of r.0.now) r.1)
