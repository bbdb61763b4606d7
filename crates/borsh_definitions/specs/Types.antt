-- What the types of the standard library bring: their names and definitions.
use Rattle.std.specs.Prelude.{ℕ, pos, List, [], ◌∷◌, codes}
use Rattle.borsh_definitions.specs.Described.{Form, primitive, sequence, tuple, choice, named, unnamed, no_fields, DefinitionTree, none, defined, both}
use Rattle.borsh_definitions.specs.Names.{applied, applied_to_two, tuple_name, beside}

-- a name for so many bytes
abbrev pub primitive_definitions : List ℕ → ℕ → DefinitionTree
primitive_definitions name n = defined name (primitive n) none

-- a count of four bytes and that many elements
abbrev pub list_of : List ℕ → Form
list_of element = sequence 4 0 4294967295 element

-- a list type: the beginning of its name, its element, and the element's definitions
abbrev pub list_definitions : List ℕ → List ℕ → DefinitionTree → DefinitionTree
list_definitions head element parts = defined (applied head element) (list_of element) (both parts none)

-- a text, which is a list of bytes
abbrev pub text_definitions : DefinitionTree
text_definitions = defined (codes "String") (list_of (codes "u8")) (both (primitive_definitions (codes "u8") 1) none)

-- `()`, a primitive of no bytes
abbrev pub unit_definitions : DefinitionTree
unit_definitions = primitive_definitions (codes "()") 0

-- a name for a tuple of these names, with the definitions of its parts
abbrev pub tuple_described : List ℕ → List (List ℕ) → DefinitionTree → DefinitionTree
tuple_described name names parts = defined name (tuple names) parts

-- the same under the tuple's own name
abbrev pub tuple_definitions : List (List ℕ) → DefinitionTree → DefinitionTree
tuple_definitions names parts = tuple_described (tuple_name names) names parts

-- `None` with tag 0, `Some` with tag 1
abbrev pub option_of : List ℕ → Form
option_of some = choice 1 ((pos 0, codes "None", codes "()") ∷ (pos 1, codes "Some", some) ∷ [])

-- `Ok` with tag 1, `Err` with tag 0
abbrev pub result_of : List ℕ → List ℕ → Form
result_of ok err = choice 1 ((pos 1, codes "Ok", ok) ∷ (pos 0, codes "Err", err) ∷ [])

-- a range with both ends, with its start alone, and with its end alone
abbrev pub range_of : List ℕ → Form
range_of end = named ((codes "start", end) ∷ (codes "end", end) ∷ [])

abbrev pub range_from : List ℕ → Form
range_from start = named ((codes "start", start) ∷ [])

abbrev pub range_to : List ℕ → Form
range_to end = named ((codes "end", end) ∷ [])

-- a map type: the beginning of its name, the names of its keys and values, and the definitions of these
abbrev pub map_definitions : List ℕ → List ℕ → List ℕ → DefinitionTree → DefinitionTree → DefinitionTree
map_definitions head key value keys values =
    defined (applied_to_two head key value) (list_of (tuple_name (key ∷ value ∷ []))) (both (tuple_definitions (key ∷ value ∷ []) (both keys (both values none))) none)

-- a struct: its name, the names of its fields, those of their types, and the definitions of the types
abbrev pub named_struct : List ℕ → List (List ℕ) → List (List ℕ) → DefinitionTree → DefinitionTree
named_struct name fields types parts = defined name (named (beside fields types)) parts

-- the same without names of fields, and without fields
abbrev pub unnamed_struct : List ℕ → List (List ℕ) → DefinitionTree → DefinitionTree
unnamed_struct name types parts = defined name (unnamed types) parts

abbrev pub unit_struct : List ℕ → DefinitionTree
unit_struct name = defined name no_fields none
