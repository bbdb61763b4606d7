-- The names and definitions of the types with a schema.
use Rattle.std.specs.Prelude.{pos, List, [], ◌∷◌, codes}
use Rattle.borsh.specs.Schema.Described.{Form, choice, named, unnamed, no_fields, DefinitionTree, none, defined, both}
use Rattle.borsh.specs.Schema.Types.{primitive_definitions, text_definitions, list_definitions}
use Rattle.borsh.specs.Schema.Names.{applied}

-- ---- an enum: a name for the part of each variant

abbrev pub zero_definitions : DefinitionTree
zero_definitions = defined (codes "MyEnum__Zero") no_fields none

abbrev pub one_definitions : DefinitionTree
one_definitions = defined (codes "MyEnum__One") (unnamed (codes "u8" ∷ [])) (both (primitive_definitions (codes "u8") 1) none)

abbrev pub many_definitions : DefinitionTree
many_definitions = defined (codes "MyEnum__Many") (unnamed (applied (codes "Vec<") (codes "u8") ∷ [])) (both (list_definitions (codes "Vec<") (codes "u8") (primitive_definitions (codes "u8") 1)) none)

abbrev pub my_enum_variants : Form
my_enum_variants = choice 1 ((pos 0, codes "Zero", codes "MyEnum__Zero") ∷ (pos 1, codes "One", codes "MyEnum__One") ∷ (pos 2, codes "Many", codes "MyEnum__Many") ∷ [])

abbrev pub my_enum_definitions : DefinitionTree
my_enum_definitions = defined (codes "MyEnum") my_enum_variants (both zero_definitions (both one_definitions many_definitions))
