-- The schema of schemas: what definitions and containers bring.
use Rattle.std.specs.Prelude.{ℕ, pos, List, [], ◌∷◌, codes}
use Rattle.borsh_definitions.specs.Described.{Form, choice, named, unnamed, no_fields, DefinitionTree, none, defined, both}
use Rattle.borsh_definitions.specs.Names.{applied, applied_to_two, tuple_name}
use Rattle.borsh_definitions.specs.Types.{primitive_definitions, list_definitions, map_definitions, text_definitions, tuple_definitions, range_of}

-- the definition of `u8`
abbrev byte_parts : DefinitionTree
byte_parts = primitive_definitions (codes "u8") 1

-- ---- lengths

-- `RangeInclusive<u64>`
abbrev pub length_range_name : List ℕ
length_range_name = applied (codes "RangeInclusive<") (codes "u64")

abbrev pub length_range_definitions : DefinitionTree
length_range_definitions = defined length_range_name (range_of (codes "u64")) (both (primitive_definitions (codes "u64") 8) none)

-- ---- fields

-- `Vec<String>`
abbrev pub texts_name : List ℕ
texts_name = applied (codes "Vec<") (codes "String")

abbrev pub texts_definitions : DefinitionTree
texts_definitions = list_definitions (codes "Vec<") (codes "String") text_definitions

-- a field's name and type
abbrev two_texts : List (List ℕ)
two_texts = codes "String" ∷ codes "String" ∷ []

-- `Vec<(String, String)>`
abbrev pub named_fields_name : List ℕ
named_fields_name = applied (codes "Vec<") (tuple_name two_texts)

abbrev pub named_fields_definitions : DefinitionTree
named_fields_definitions = list_definitions (codes "Vec<") (tuple_name two_texts) (tuple_definitions two_texts (both text_definitions (both text_definitions none)))

abbrev pub named_fields_variant : DefinitionTree
named_fields_variant = defined (codes "Fields__NamedFields") (unnamed (named_fields_name ∷ [])) (both named_fields_definitions none)

abbrev pub unnamed_fields_variant : DefinitionTree
unnamed_fields_variant = defined (codes "Fields__UnnamedFields") (unnamed (texts_name ∷ [])) (both texts_definitions none)

abbrev pub empty_variant : DefinitionTree
empty_variant = defined (codes "Fields__Empty") no_fields none

-- the variants of `Fields`: tag, name, name of the variant's struct
abbrev pub fields_variants : Form
fields_variants = choice 1
    ((pos 0, codes "NamedFields", codes "Fields__NamedFields") ∷ (pos 1, codes "UnnamedFields", codes "Fields__UnnamedFields") ∷ (pos 2, codes "Empty", codes "Fields__Empty") ∷ [])

abbrev pub fields_definitions : DefinitionTree
fields_definitions = defined (codes "Fields") fields_variants (both named_fields_variant (both unnamed_fields_variant empty_variant))

-- ---- definitions

-- a variant's discriminant, name and type
abbrev number_and_two_texts : List (List ℕ)
number_and_two_texts = codes "i64" ∷ codes "String" ∷ codes "String" ∷ []

-- `Vec<(i64, String, String)>`
abbrev pub variants_name : List ℕ
variants_name = applied (codes "Vec<") (tuple_name number_and_two_texts)

abbrev pub variants_definitions : DefinitionTree
variants_definitions = list_definitions (codes "Vec<") (tuple_name number_and_two_texts) (tuple_definitions number_and_two_texts (both (primitive_definitions (codes "i64") 8) (both text_definitions (both text_definitions none))))

abbrev pub primitive_variant : DefinitionTree
primitive_variant = defined (codes "Definition__Primitive") (unnamed (codes "u8" ∷ [])) (both byte_parts none)

abbrev pub sequence_variant : DefinitionTree
sequence_variant =
    defined (codes "Definition__Sequence") (named ((codes "length_width", codes "u8") ∷ (codes "length_range", length_range_name) ∷ (codes "elements", codes "String") ∷ []))
    (both byte_parts (both length_range_definitions (both text_definitions none)))

abbrev pub tuple_variant : DefinitionTree
tuple_variant = defined (codes "Definition__Tuple") (named ((codes "elements", texts_name) ∷ [])) (both texts_definitions none)

abbrev pub enum_variant : DefinitionTree
enum_variant = defined (codes "Definition__Enum") (named ((codes "tag_width", codes "u8") ∷ (codes "variants", variants_name) ∷ [])) (both byte_parts (both variants_definitions none))

abbrev pub struct_variant : DefinitionTree
struct_variant = defined (codes "Definition__Struct") (named ((codes "fields", codes "Fields") ∷ [])) (both fields_definitions none)

-- the variants of `Definition`
abbrev pub definition_variants : Form
definition_variants = choice 1
    ((pos 0, codes "Primitive", codes "Definition__Primitive") ∷ (pos 1, codes "Sequence", codes "Definition__Sequence") ∷ (pos 2, codes "Tuple", codes "Definition__Tuple")
    ∷ (pos 3, codes "Enum", codes "Definition__Enum") ∷ (pos 4, codes "Struct", codes "Definition__Struct") ∷ [])

abbrev pub definition_definitions : DefinitionTree
definition_definitions = defined (codes "Definition") definition_variants (both primitive_variant (both sequence_variant (both tuple_variant (both enum_variant struct_variant))))

-- ---- containers

-- `BTreeMap<String, Definition>`
abbrev pub map_name : List ℕ
map_name = applied_to_two (codes "BTreeMap<") (codes "String") (codes "Definition")

abbrev pub definition_map_definitions : DefinitionTree
definition_map_definitions = map_definitions (codes "BTreeMap<") (codes "String") (codes "Definition") text_definitions definition_definitions

abbrev pub container_definitions : DefinitionTree
container_definitions =
    defined (codes "BorshSchemaContainer") (named ((codes "declaration", codes "String") ∷ (codes "definitions", map_name) ∷ []))
    (both text_definitions (both definition_map_definitions none))
