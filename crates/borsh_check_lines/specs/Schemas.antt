-- The schemas of the types that words name, and what answers a line that asks for one.
use Rattle.std.specs.Prelude.{◌≡◌, ℕ, List, [], ◌∷◌, Option, Some, MatchOption, ◌⊎◌, codes}
use Rattle.borsh_schema.specs.declared.container.BorshSchemaContainer.{BorshSchemaContainer}
use Rattle.borsh_schema.specs.Codecs.{container}
use Rattle.borsh_schema.specs.Containers.{IsContainerOf}
use Rattle.borsh_definitions.specs.Described.{sequence, named, no_fields, DefinitionTree, none, defined, both}
use Rattle.borsh_definitions.specs.Names.{applied, applied_to_two, array_name, tuple_name}
use Rattle.borsh_definitions.specs.Types.{list_definitions, map_definitions, option_of, primitive_definitions, range_of, range_from as range_from_of, range_to as range_to_of, result_of, text_definitions, tuple_definitions, unit_definitions}
use Rattle.borsh.specs.WithSchema.{HasClash}
use Rattle.borsh_check_lines.specs.Digits.{digits_of}

-- a type's name, and the definitions that it leads to
abbrev pub Schema : Type 0
Schema = List ℕ × DefinitionTree

-- a name of so many bytes
abbrev pub primitive : List ℕ → ℕ → Schema
primitive name n = (name, primitive_definitions name n)

abbrev pub u8 : Schema
u8 = primitive (codes "u8") 1

abbrev i32 : Schema
i32 = primitive (codes "i32") 4

abbrev pub unit : Schema
unit = (codes "()", unit_definitions)

abbrev pub string : Schema
string = (codes "String", text_definitions)

-- ---- sums and ranges

abbrev pub option : Schema → Schema
option s = (applied (codes "Option<") s.0, defined (applied (codes "Option<") s.0) (option_of s.0) (both s.1 (both unit_definitions none)))

abbrev pub result : Schema → Schema → Schema
result s t = (applied_to_two (codes "Result<") s.0 t.0, defined (applied_to_two (codes "Result<") s.0 t.0) (result_of s.0 t.0) (both s.1 (both t.1 none)))

-- a range with both ends, by the beginning of its name
abbrev range : List ℕ → Schema → Schema
range head s = (applied head s.0, defined (applied head s.0) (range_of s.0) (both s.1 none))

abbrev range_from : Schema → Schema
range_from s = (applied (codes "RangeFrom<") s.0, defined (applied (codes "RangeFrom<") s.0) (range_from_of s.0) (both s.1 none))

-- a range with its end alone
abbrev range_to : List ℕ → Schema → Schema
range_to head s = (applied head s.0, defined (applied head s.0) (range_to_of s.0) (both s.1 none))

abbrev range_full : Schema
range_full = (codes "RangeFull", defined (codes "RangeFull") no_fields none)

-- the names of several types
abbrev names : List Schema → List (List ℕ)
names [] = []
names (s ∷ ss) = s.0 ∷ names ss

-- the definitions of several types
abbrev all_parts : List Schema → DefinitionTree
all_parts [] = none
all_parts (s ∷ ss) = both s.1 (all_parts ss)

abbrev pub tuple : List Schema → Schema
tuple ss = (tuple_name (names ss), tuple_definitions (names ss) (all_parts ss))

abbrev pub ranges : Schema
ranges =
    tuple (range (codes "Range<") i32 ∷ range (codes "RangeInclusive<") i32 ∷ range_from i32 ∷ range_to (codes "RangeTo<") i32 ∷ range_to (codes "RangeToInclusive<") i32 ∷ range_full ∷ [])

-- ---- lists and maps, by the beginnings of their names

-- an array of that element and length
abbrev pub array : Schema → ℕ → Schema
array s n = (array_name s.0 n, defined (array_name s.0 n) (sequence 0 n n s.0) (both s.1 none))

abbrev pub list : List ℕ → Schema → Schema
list head s = (applied head s.0, list_definitions head s.0 s.1)

abbrev pub map : List ℕ → Schema → Schema → Schema
map head k v = (applied_to_two head k.0 v.0, map_definitions head k.0 v.0 k.1 v.1)

-- ---- the struct of the samples

-- `struct A { x: u64, y: String }`
abbrev pub readme : Schema
readme = (codes "A", defined (codes "A") (named ((codes "x", codes "u64") ∷ (codes "y", codes "String") ∷ [])) (both (primitive_definitions (codes "u64") 8) (both text_definitions none)))

-- what answers a line that asks for the schema with this name and these definitions: the encoding of its container
pub record IsSchemaText (name : List ℕ) (parts : DefinitionTree) (out : List ℕ) : Type 0 where
  pub own : BorshSchemaContainer
  pub bytes : List ℕ
  pub is : IsContainerOf name parts own
  pub encoded : container.encoding own ≡ Some bytes
  pub text : out ≡ digits_of bytes

-- what answers a line that asks for the schema of a type with this one, or with none
abbrev pub AnswersSchema : Option Schema → List ℕ → Type 0
AnswersSchema schema out = MatchOption schema (out ≡ codes "error no schema") (λ s. IsSchemaText s.0 s.1 out)

-- ---- the steps

-- the same, or a name of the type has two definitions; no word's type has such a name
abbrev pub AnswersSchemaOrClash : Option Schema → List ℕ → Type 0
AnswersSchemaOrClash schema out = MatchOption schema (out ≡ codes "error no schema") (λ s. IsSchemaText s.0 s.1 out ⊎ HasClash s.1)
