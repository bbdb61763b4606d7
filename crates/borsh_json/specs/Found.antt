-- What the code finds of the definition of a name, against the format's own types and the table.
use Rattle.std.specs.{Prelude.{◌≡◌, ◌⊎◌, ℕ, List, [], ◌∷◌, ◌++◌, codes, MatchOption, Option, Some}, Borrow.{Bor}, Float.{Format}, List.{IsDistinct}, Str.{bytes_eq}}
use Rattle.borsh_plan.specs.{declared.named.Named.{Named}, Plan.{map_of, names_of as plan_names, root_of}}
use Rattle.borsh_json.specs.{declared.definitions.Definitions.{Definitions}, declared.formats.Collection.{Collection}, declared.formats.Collection.TheVariants.{List as Elements, Set, Map}, declared.kinds.Kind.{Kind as Found}, declared.kinds.Kind.TheVariants.{Number, Bool as Truth, Bytes, Float}, declared.kinds.Entries.{Entries as FoundEntries}, Forms.{Form, form_of, forms_in, HasNoBytes, IsList, IsMap}, Table.{Kind, whole, truth, raw, float, float_size, Keys, AreKeys, ComesTwice}, Places.{IsAt, IsKindOf, AreKeysOf}, Represents.{TextSays}}

-- the definitions, with the names of fields and variants
abbrev pub forms_of : Definitions → List ℕ → Option Form
forms_of d = forms_in (map_of d.plan.now)

-- and the names, by their places
abbrev pub names_of : Definitions → List Named
names_of d = plan_names d.plan.now

-- the name at the place is x
abbrev pub IsNamed : Definitions → ℕ → List ℕ → Type 0
IsNamed d at x = IsAt (names_of d) at x

-- and has this definition
abbrev pub HasForm : Definitions → ℕ → Form → List ℕ → Type 0
HasForm d at f x = IsNamed d at x × (forms_of d x ≡ Some f)

-- the text says the bytes, as a value of the plan's root
abbrev pub SaysBy : Definitions → List ℕ → List ℕ → Type 0
SaysBy d text bytes = TextSays (forms_of d) (root_of d.plan.now) text bytes

-- the kind is that of the name at the place, if it has this definition, and its values have bytes
abbrev pub TellsKind : Definitions → ℕ → Form → Found → Type 0
TellsKind d at f kind = (x : List ℕ) → HasForm d at f x → (HasNoBytes (forms_of d) x → ⊥) → IsKindOf (forms_of d) (plan_names d.plan.now) x f kind

-- pieces of a text, one after another
abbrev pub joined : List (Bor (List ℕ)) → List ℕ
joined [] = []
joined (p ∷ ps) = p.now ++ joined ps

-- what a primitive is written as
abbrev pub IsPrimitiveKind : Found → Kind → Type 0
IsPrimitiveKind (Number n) kind = kind ≡ whole n.size n.is_signed n.is_non_zero
IsPrimitiveKind Truth kind = kind ≡ truth
IsPrimitiveKind (Bytes n) kind = kind ≡ raw n
IsPrimitiveKind (Float n) kind = (g : Format) × (n ≡ float_size g) × (kind ≡ float g)
IsPrimitiveKind found kind = ⊥

-- a name that comes twice, if one does
abbrev pub IsRepeated : List (List ℕ) → Option (Bor (List ℕ)) → Type 0
IsRepeated names found = MatchOption found (IsDistinct bytes_eq names) (λ name. (IsDistinct bytes_eq names → ⊥) × ComesTwice name.now names)

-- `BTreeSet<T>` or `HashSet<T>`, where e is T
abbrev pub IsSetName : List ℕ → List ℕ → Type 0
IsSetName x e = (x ≡ codes "BTreeSet<" ++ e ++ codes ">") ⊎ (x ≡ codes "HashSet<" ++ e ++ codes ">")

-- `BTreeMap<K, V>` or `HashMap<K, V>`, where k is K and v is V
abbrev pub IsMapName : List ℕ → List ℕ → List ℕ → Type 0
IsMapName x k v = (x ≡ codes "BTreeMap<" ++ k ++ codes ", " ++ v ++ codes ">") ⊎ (x ≡ codes "HashMap<" ++ k ++ codes ", " ++ v ++ codes ">")

module _ (F : List ℕ → Option Form) where
  -- a set, where e is the name of its elements
  abbrev pub IsSet : List ℕ → List ℕ → Type 0
  IsSet x e = IsList F x e × IsSetName x e

  module _ (ns : List Named) where
    -- what the elements of x are
    abbrev pub IsCollection : List ℕ → Collection → Type 0
    IsCollection x Elements = ((e : List ℕ) → IsSet x e → ⊥) × ((k v : List ℕ) → IsMap F x k v → ⊥)
    IsCollection x Set = ((e : List ℕ) × IsSet x e) × ((k v : List ℕ) → IsMap F x k v → ⊥)
    IsCollection x (Map key value) = (k : List ℕ) × (v : List ℕ) × IsAt ns key k × IsAt ns value v × IsMap F x k v

    -- these are the entries of a map with these places of keys and values
    abbrev pub AreEntries : FoundEntries → List ℕ → Type 0
    AreEntries es k = (keys : Keys) × (F k ≡ Some (form_of es.key_definition.now)) × AreKeys F k keys × AreKeysOf F ns k (form_of es.key_definition.now) es.key_kind keys
