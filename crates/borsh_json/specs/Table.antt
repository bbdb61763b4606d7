-- How the values of a name are written as JSON: the kinds of names, and what JSON of each kind says.
use Rattle.std.specs.{Prelude.{◌≡◌, ◌⊎◌, ℕ, suc, zero, ◌*◌, ◌<◌, ◌≤◌, ◌^◌, ℤ, pos, negsuc, List, [], ◌∷◌, ◌++◌, length, map, Bool, true, false, ◌&&◌, ◌==◌, if◌then◌else◌, nat_le, codes, count_by, Option, Some, None, option_map, option_and_then, Ok, IsUtf8, is_nan, from_bits}, Float.{Float, Format, binary32, binary64, inf}, Float.Parse.{parse_float}, Str.{bytes_eq}, Str.Parse.{signed_digits_value}, Fmt.{signed_decimal}, List.{IsDistinct}, List.Sorted.{IsPermutation, IsStrictlySortedBy}, declared.cmp.Ordering.{Ordering}, Ordering.{nat_cmp, int_cmp}, Cmp.Lexicographic.{slice_cmp}}
use Rattle.hex.specs.Hex.{decode_of}
use Rattle.json.specs.{Json.{Json, null, boolean, number, string, array, object, Items, no_items, item, Members, no_members, member}, Find.{get_member}}
use Rattle.borsh_walks.specs.Container.{tag, little_endian}
use Rattle.borsh_json.specs.Forms.{Form, primitive, sequence, tuple, choice, named, unnamed, no_fields, HasNoBytes, IsList, IsByte, IsOption, IsMap}

-- ---- how the values of a name are written

-- the width of a length prefix, and the least and the greatest length
pub record Lengths : Type 0 where
  pub width : ℕ
  pub least : ℕ
  pub greatest : ℕ

-- those of the format's own lists: a length prefix of four bytes, and any length
abbrev pub any_length : Lengths
any_length = record { width = 4; least = 0; greatest = 4294967295 }

-- the name and the lengths of the format's `String`, whose elements are `u8`
abbrev pub IsString : List ℕ → Lengths → Type 0
IsString x l = (x ≡ codes "String") × (l ≡ any_length)

-- the keys of an object: texts, or numbers of so many bytes
pub data Keys : Type 0 where
  texts : Keys
  numbers : ℕ → Keys

-- how the values of a name are written: `Says`, below, has a sentence for each
pub data Kind : Type 0 where
  no_bytes : Kind
  truth : Kind
  whole : ℕ → Bool → Bool → Kind
  float : Format → Kind
  raw : ℕ → Kind
  utf8 : Lengths → Kind
  byte_list : Lengths → List ℕ → Kind
  list : Lengths → List ℕ → Kind
  row : List (List ℕ) → Kind
  inner : List ℕ → Kind
  fields : List (List ℕ × List ℕ) → Kind
  optional : List ℕ → Kind
  variants : ℕ → List (ℤ × List ℕ × List ℕ) → Kind
  entries : Lengths → Keys → List ℕ → List ℕ → Kind

-- the format's whole numbers: name, how many bytes, whether signed, and whether without 0
abbrev pub number_types : List (List ℕ × ℕ × Bool × Bool)
number_types =
    (codes "u8", 1, false, false) ∷ (codes "u16", 2, false, false) ∷ (codes "u32", 4, false, false) ∷ (codes "u64", 8, false, false) ∷ (codes "u128", 16, false, false)
    ∷ (codes "i8", 1, true, false) ∷ (codes "i16", 2, true, false) ∷ (codes "i32", 4, true, false) ∷ (codes "i64", 8, true, false) ∷ (codes "i128", 16, true, false)
    ∷ (codes "NonZeroU8", 1, false, true) ∷ (codes "NonZeroU16", 2, false, true) ∷ (codes "NonZeroU32", 4, false, true) ∷ (codes "NonZeroU64", 8, false, true) ∷ (codes "NonZeroUsize", 8, false, true) ∷ (codes "NonZeroU128", 16, false, true)
    ∷ (codes "NonZeroI8", 1, true, true) ∷ (codes "NonZeroI16", 2, true, true) ∷ (codes "NonZeroI32", 4, true, true) ∷ (codes "NonZeroI64", 8, true, true) ∷ (codes "NonZeroI128", 16, true, true) ∷ []

-- a primitive of n bytes: the first of these types that has its name and size, or none of them
abbrev pub number_kind : List (List ℕ × ℕ × Bool × Bool) → List ℕ → ℕ → Kind
number_kind [] x n = raw n
number_kind (t ∷ ts) x n = if bytes_eq x t.0 && (t.1 == n) then whole t.1 t.2 t.3 else number_kind ts x n

-- a primitive of n bytes: `bool`; `f32` or `f64`; a whole number; or none of these
abbrev pub primitive_kind : List ℕ → ℕ → Kind
primitive_kind x n =
    if bytes_eq x (codes "bool") && (n == 1) then truth
    else if bytes_eq x (codes "f32") && (n == 4) then float binary32
    else if bytes_eq x (codes "f64") && (n == 8) then float binary64
    else number_kind number_types x n

-- a struct whose fields have no names: what its only field is, or a row of several or none
abbrev pub unnamed_kind : List (List ℕ) → Kind
unnamed_kind [] = row []
unnamed_kind (p ∷ []) = inner p
unnamed_kind (p ∷ q ∷ ps) = row (p ∷ q ∷ ps)

-- the name comes twice among these
abbrev pub ComesTwice : List ℕ → List (List ℕ) → Type 0
ComesTwice name names = 2 ≤ count_by (λ n. bytes_eq n name) names

module _ (F : List ℕ → Option Form) where
  -- the JSON of the name may be `null`: the name has no bytes; or it is an `Option`, even one that is never written as `null`; or it is a
  -- newtype of a name that may. After n newtypes, as many as values may nest, a name counts as one that may, so that circles end
  pub data MayBeNull : ℕ → List ℕ → Type 0 where
    too_far : {x : List ℕ} → MayBeNull zero x
    without_bytes : {n : ℕ} {x : List ℕ} → HasNoBytes F x → MayBeNull (suc n) x
    an_option : {n : ℕ} {x : List ℕ} (p : List ℕ) → IsOption F x p → MayBeNull (suc n) x
    in_newtype : {n : ℕ} {x : List ℕ} (p : List ℕ) → F x ≡ Some (unnamed (p ∷ [])) → MayBeNull n p → MayBeNull (suc n) x

  -- `Option<T>`, whose `T` is never `null`, as far as 128 newtypes tell
  abbrev pub IsNullable : List ℕ → List ℕ → Type 0
  IsNullable x p = IsOption F x p × (MayBeNull 128 p → ⊥)

  -- keys that are written as keys of an object: the format's `String` and whole numbers
  abbrev pub AreKeys : List ℕ → Keys → Type 0
  AreKeys k texts = (k ≡ codes "String") × IsList F k (codes "u8") × IsByte F (codes "u8")
  AreKeys k (numbers n) = (F k ≡ Some (primitive n)) × (signed : Bool) × (non_zero : Bool) × (primitive_kind k n ≡ whole n signed non_zero)

  -- a sequence of elements e with these lengths
  pub data SequenceKind (x : List ℕ) (l : Lengths) (e : List ℕ) : Kind → Type 0 where
    a_text : IsString x l → IsByte F e → SequenceKind x l e (utf8 l)
    some_bytes : (IsString x l → ⊥) → IsByte F e → SequenceKind x l e (byte_list l e)
    an_object : {k v : List ℕ} {keys : Keys} → IsMap F x k v → AreKeys k keys → SequenceKind x l e (entries l keys k v)
    -- any other, whose elements have bytes, and a map's keys too
    some_elements :
        (IsByte F e → ⊥)
        → ((k v : List ℕ) (keys : Keys) → IsMap F x k v → AreKeys k keys → ⊥)
        → (HasNoBytes F e → ⊥)
        → ((k v : List ℕ) → IsMap F x k v → HasNoBytes F k → ⊥)
        → SequenceKind x l e (list l e)

  -- an enum
  pub data ChoiceKind (x : List ℕ) (w : ℕ) (vs : List (ℤ × List ℕ × List ℕ)) : Kind → Type 0 where
    nullable : {p : List ℕ} → IsNullable x p → ChoiceKind x w vs (optional p)
    by_name : ((p : List ℕ) → IsNullable x p → ⊥) → ChoiceKind x w vs (variants w vs)

  -- a name with bytes and this definition
  abbrev pub DefinedKind : List ℕ → Form → Kind → Type 0
  DefinedKind x (primitive n) kind = kind ≡ primitive_kind x n
  DefinedKind x (sequence w lo hi e) kind = SequenceKind x (record { width = w; least = lo; greatest = hi }) e kind
  DefinedKind x (tuple ps) kind = kind ≡ row ps
  DefinedKind x (choice w vs) kind = ChoiceKind x w vs kind
  DefinedKind x (named fs) kind = kind ≡ fields fs
  DefinedKind x (unnamed ps) kind = kind ≡ unnamed_kind ps
  DefinedKind x no_fields kind = kind ≡ row []

  -- how the values of a name are written: each name has at most one kind
  abbrev pub HasKind : List ℕ → Kind → Type 0
  HasKind x kind = (HasNoBytes F x × (kind ≡ no_bytes)) ⊎ ((HasNoBytes F x → ⊥) × (d : Form) × (F x ≡ Some d) × DefinedKind x d kind)

  -- ---- definitions without JSON

  -- the elements of a list, or the keys of a map, have no bytes
  abbrev pub HasEmptyElements : List ℕ → Type 0
  HasEmptyElements x =
      (w : ℕ) × (lo : ℕ) × (hi : ℕ) × (e : List ℕ) × (F x ≡ Some (sequence w lo hi e))
      × (HasNoBytes F e ⊎ ((k : List ℕ) × (v : List ℕ) × IsMap F x k v × HasNoBytes F k))

  -- two fields or two variants have the name
  abbrev pub RepeatsName : List ℕ → List ℕ → Type 0
  RepeatsName x name =
      ((fs : List (List ℕ × List ℕ)) × HasKind x (fields fs) × ComesTwice name (map (λ f. f.0) fs))
      ⊎ ((w : ℕ) × (vs : List (ℤ × List ℕ × List ℕ)) × HasKind x (variants w vs) × ComesTwice name (map (λ v. v.1) vs))

-- ---- numbers, digits and lengths

-- a number that n bytes have room for
abbrev pub InRange : ℕ → Bool → ℤ → Type 0
InRange n false (pos m) = m < 256 ^ n
InRange n false (negsuc m) = ⊥
InRange n true (pos m) = 2 * m < 256 ^ n
InRange n true (negsuc m) = 2 * m < 256 ^ n

-- the text is the number in decimal, as it is printed, and these are its bytes
abbrev pub IsWhole : ℕ → Bool → Bool → List ℕ → List ℕ → Type 0
IsWhole n signed non_zero s own = (z : ℤ) × (s ≡ signed_decimal z) × (own ≡ tag n z) × InRange n signed z × (non_zero ≡ true → z ≡ pos 0 → ⊥)

-- a number of at most 8 bytes is a JSON number, and one of 8 or more a JSON string
abbrev pub IsNumber : ℕ → List ℕ → Json → Type 0
IsNumber n s j = ((n ≤ 8) × (j ≡ number s)) ⊎ ((8 ≤ n) × (j ≡ string s))

-- `0x` and hexadecimal digits, two for each byte
abbrev pub IsHex : Json → List ℕ → Type 0
IsHex j bytes = (digits : List ℕ) × (j ≡ string (codes "0x" ++ digits)) × (decode_of digits ≡ Ok bytes)

-- how many bytes a float has
abbrev pub float_size : Format → ℕ
float_size binary32 = 4
float_size binary64 = 8

-- an infinity, by its word
abbrev pub infinity_of : List ℕ → Option Float
infinity_of s = if bytes_eq s (codes "inf") then Some (inf false) else if bytes_eq s (codes "-inf") then Some (inf true) else None

-- the float that JSON is: the one nearest to a number, or an infinity
abbrev pub float_of : Format → Json → Option Float
float_of f null = None
float_of f (boolean b) = None
float_of f (number s) = parse_float f s
float_of f (string s) = infinity_of s
float_of f (array js) = None
float_of f (object ms) = None

-- the bytes are those of the bits of the float, which is no NaN
abbrev pub IsFloat : Format → Float → List ℕ → Type 0
IsFloat f v bytes = (bits : ℕ) × (bytes ≡ little_endian (float_size f) bits) × (bits < 256 ^ float_size f) × (from_bits f bits ≡ v) × (is_nan v ≡ false)

-- the prefix of a length k that is in range, and then these bytes
abbrev pub IsPrefixed : Lengths → ℕ → List ℕ → List ℕ → Type 0
IsPrefixed l k bytes own = (l.least ≤ k) × (k ≤ l.greatest) × (own ≡ tag l.width (pos k) ++ bytes)

-- ---- parts: a part is the name of its type, and its JSON
abbrev pub Part : Type 0
Part = List ℕ × Json

-- items of these types, one each
abbrev pub row_parts : List (List ℕ) → Items → Option (List Part)
row_parts [] no_items = Some []
row_parts [] (item j js) = None
row_parts (x ∷ xs) no_items = None
row_parts (x ∷ xs) (item j js) = option_map (λ ps. (x, j) ∷ ps) (row_parts xs js)

-- items of one type
abbrev pub list_parts : List ℕ → Items → List Part
list_parts e no_items = []
list_parts e (item j js) = (e, j) ∷ list_parts e js

-- the member of each field, in the order of the fields
abbrev pub field_parts : List (List ℕ × List ℕ) → Members → Option (List Part)
field_parts [] ms = Some []
field_parts (f ∷ fs) ms = option_and_then (λ j. option_map (λ ps. (f.1, j) ∷ ps) (field_parts fs ms)) (get_member f.0 ms)

-- the variant is listed: discriminant, name, type
pub data IsVariant (k : ℤ) (v p : List ℕ) : List (ℤ × List ℕ × List ℕ) → Type 0 where
  this : {vs : List (ℤ × List ℕ × List ℕ)} → IsVariant k v p ((k, v, p) ∷ vs)
  that : {u : ℤ × List ℕ × List ℕ} {vs : List (ℤ × List ℕ × List ℕ)} → IsVariant k v p vs → IsVariant k v p (u ∷ vs)

-- a key and its value
abbrev pub Entry : Type 0
Entry = List ℕ × Json

abbrev pub entries_of : Members → List Entry
entries_of no_members = []
entries_of (member k j ms) = (k, j) ∷ entries_of ms

-- the order of keys: texts by their bytes, numbers as numbers
abbrev pub key_order : Keys → Entry → Entry → Ordering
key_order texts a b = slice_cmp nat_cmp a.0 b.0
key_order (numbers n) a b = int_cmp (signed_digits_value 10 a.0) (signed_digits_value 10 b.0)

-- the JSON of a key, as that of another value of its type: a string, or a number where it has less than 8 bytes
abbrev pub key_json : Keys → List ℕ → Json
key_json texts k = string k
key_json (numbers n) k = if nat_le 8 n then string k else number k

-- each key and its value, as parts
abbrev pub entry_parts : Keys → List ℕ → List ℕ → List Entry → List Part
entry_parts keys k v [] = []
entry_parts keys k v (e ∷ es) = (k, key_json keys e.0) ∷ (v, e.1) ∷ entry_parts keys k v es

-- ---- the table of JSON

-- `[1, 2]`: so many elements of one type
abbrev pub IsArray : Lengths → List ℕ → Json → List ℕ → List Part → Type 0
IsArray l e j own ps = (js : Items) × (j ≡ array js) × (ps ≡ list_parts e js) × IsPrefixed l (length ps) [] own

module _ (F : List ℕ → Option Form) where
  -- JSON of this kind says these bytes, and then those of its parts
  abbrev pub Says : Kind → Json → List ℕ → List Part → Type 0
  -- a value without bytes: `null`
  Says no_bytes j own ps = (j ≡ null) × (own ≡ []) × (ps ≡ [])
  -- `bool`: `true`
  Says truth j own ps = (b : Bool) × (j ≡ boolean b) × (own ≡ (if b then 1 else 0) ∷ []) × (ps ≡ [])
  -- a whole number: `7` of less than 8 bytes, `"7"` of more, and either of 8
  Says (whole n signed non_zero) j own ps = (s : List ℕ) × IsNumber n s j × IsWhole n signed non_zero s own × (ps ≡ [])
  -- a float that isn't a NaN: `1.5`, any number, rounded once to the nearest float; or `"inf"` or `"-inf"`
  Says (float f) j own ps = (v : Float) × (float_of f j ≡ Some v) × IsFloat f v own × (ps ≡ [])
  -- another primitive: `"0x0a1f"`, its bytes
  Says (raw n) j own ps = IsHex j own × (length own ≡ n) × (ps ≡ [])
  -- a `String`: `"text"`
  Says (utf8 l) j own ps = (s : List ℕ) × (j ≡ string s) × IsUtf8 s × IsPrefixed l (length s) s own × (ps ≡ [])
  -- another list or array of `u8`: `"0x0a1f"`, or `[10, 31]`
  Says (byte_list l e) j own ps = ((bs : List ℕ) × IsHex j bs × IsPrefixed l (length bs) bs own × (ps ≡ [])) ⊎ IsArray l e j own ps
  -- another list, set or array: `[1, 2]`; or a map with other keys: `[[k, v], ..]`. The elements of a set and the keys of a map ascend: `InOrder` says so
  Says (list l e) j own ps = IsArray l e j own ps
  -- a tuple, or a struct with several fields without names: `[1, 2]`
  Says (row xs) j own ps = (own ≡ []) × (js : Items) × (j ≡ array js) × (row_parts xs js ≡ Some ps)
  -- a struct with one field without a name: what the field is
  Says (inner x) j own ps = (own ≡ []) × (ps ≡ (x, j) ∷ [])
  -- a struct with named fields, no two of one name: `{"x": 1}`, with its fields and no others, in any order
  Says (fields fs) j own ps = IsDistinct bytes_eq (map (λ f. f.0) fs) × (own ≡ []) × (ms : Members) × (j ≡ object ms) × (length (entries_of ms) ≡ length fs) × (field_parts fs ms ≡ Some ps)
  -- an `Option` whose value is never `null`: `null`, or its value
  Says (optional x) j own ps = ((j ≡ null) × (own ≡ 0 ∷ []) × (ps ≡ [])) ⊎ ((j ≡ null → ⊥) × (own ≡ 1 ∷ []) × (ps ≡ (x, j) ∷ []))
  -- an enum, no two variants of one name: `"Name"` for a variant without bytes, `{"Name": 7}` for one with
  Says (variants w vs) j own ps =
      IsDistinct bytes_eq (map (λ v. v.1) vs)
      × (k : ℤ) × (v : List ℕ) × (p : List ℕ) × IsVariant k v p vs × (own ≡ tag w k)
      × (((j ≡ string v) × HasNoBytes F p × (ps ≡ []))
      ⊎ ((value : Json) × (j ≡ object (member v value no_members)) × (HasNoBytes F p → ⊥) × (ps ≡ (p, value) ∷ [])))
  -- a map with texts or numbers as keys: `{"a": 1}`, in any order; in the bytes the keys ascend, and none comes twice
  Says (entries l keys k v) j own ps =
      (ms : Members) × (es : List Entry) × (j ≡ object ms)
      × IsPermutation (entries_of ms) es × IsStrictlySortedBy (key_order keys) es
      × IsPrefixed l (length es) [] own × (ps ≡ entry_parts keys k v es)
