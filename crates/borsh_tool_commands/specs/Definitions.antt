-- How a definition is printed.
use Rattle.std.specs.Prelude.{ℕ, ℤ, Option, Some, None, bytes_eq, ◌==◌, List, [], ◌∷◌, ◌++◌, flat_map, if◌then◌else◌, codes, decimal, String, string_bytes}
use Rattle.std.specs.Fmt.{signed_decimal}
use Rattle.std.specs.Global.{Global}
use Rattle.std.specs.BTreeMap.{get_by_text}
use Rattle.borsh_walks.specs.declared.definition.Definition.{Definition}
use Rattle.borsh_walks.specs.declared.definition.Definition.TheVariants.{Primitive, Sequence, Tuple, Enum, Struct}
use Rattle.borsh_walks.specs.declared.definition.Fields.{Fields}
use Rattle.borsh_walks.specs.declared.definition.Fields.TheVariants.{NamedFields, UnnamedFields, Empty}
use Rattle.borsh_walks.specs.declared.definition.LengthRange.{LengthRange}
use Rattle.borsh_tool_commands.specs.Plain.{escaped, name_text}
use Rattle.borsh_tool_commands.specs.declared.values.Schema.{Schema}
use Rattle.borsh_tool_commands.specs.Answers.{line_of, missing_text}

-- a number of bytes
abbrev pub size_text : ℕ → List ℕ
size_text n = decimal n ++ (if n == 1 then codes " byte" else codes " bytes")

-- texts with a comma and a space between any two
abbrev pub listed : {A : Type 0} → (A → List ℕ) → List A → List ℕ
listed f [] = []
listed f (x ∷ xs) = f x ++ flat_map (λ y. codes ", " ++ f y) xs

abbrev pub part_text : String Global → List ℕ
part_text p = name_text (string_bytes p)

-- `(u64, String)`
abbrev pub parts_text : List (String Global) → List ℕ
parts_text ps = codes "(" ++ (listed part_text ps ++ codes ")")

-- `x: u64`
abbrev pub field_text : (String Global × String Global) → List ℕ
field_text f = name_text (string_bytes f.0) ++ (codes ": " ++ name_text (string_bytes f.1))

-- texts in braces
abbrev pub braced : {A : Type 0} → (A → List ℕ) → List A → List ℕ
braced f [] = codes " {}"
braced f (x ∷ xs) = codes " { " ++ (listed f (x ∷ xs) ++ codes " }")

abbrev pub fields_text : Fields → List ℕ
fields_text (NamedFields fs) = braced field_text fs.items
fields_text (UnnamedFields ps) = parts_text ps.items
fields_text Empty = []

-- `Some(u8) = 1`
abbrev pub variant_text : (ℤ × String Global × String Global) → List ℕ
variant_text v = name_text (string_bytes v.1) ++ (codes "(" ++ (name_text (string_bytes v.2) ++ (codes ") = " ++ flat_map escaped (signed_decimal v.0))))

-- the least and the greatest number of elements, once where they are the same
abbrev pub range_text : LengthRange → List ℕ
range_text r = if r.start == r.end then decimal r.start else decimal r.start ++ (codes "..=" ++ decimal r.end)

-- `String = [u8; 0..=4294967295]`
unfoldable pub elements_text : List ℕ → LengthRange → List ℕ → List ℕ
elements_text name range element = name_text name ++ (codes " = [" ++ (name_text element ++ (codes "; " ++ (range_text range ++ codes "]"))))

abbrev pub sequence_text : List ℕ → ℕ → LengthRange → List ℕ → List ℕ
sequence_text name width range element =
    if width == 0 then codes "array " ++ elements_text name range element
    else codes "sequence " ++ (elements_text name range element ++ (codes ", length in " ++ size_text width))

abbrev pub definition_text : List ℕ → Definition → List ℕ
definition_text name (Primitive n) = codes "primitive " ++ (name_text name ++ (codes " = " ++ size_text n))
definition_text name (Sequence w r e) = sequence_text name w r (string_bytes e)
definition_text name (Tuple ps) = codes "tuple " ++ (name_text name ++ (codes " = " ++ parts_text ps.items))
definition_text name (Enum w vs) = codes "enum " ++ (name_text name ++ (braced variant_text vs.items ++ (codes ", tag in " ++ size_text w)))
definition_text name (Struct fs) = codes "struct " ++ (name_text name ++ fields_text fs)

-- the root's line
abbrev pub root_line : List ℕ → Option Definition → List ℕ
root_line root None = missing_text root
root_line root (Some d) = line_of (definition_text root d)

-- the line of a name that isn't the root
unfoldable pub other_text : List ℕ → (String Global × Definition) → List ℕ
other_text root e = if bytes_eq (string_bytes e.0) root then [] else line_of (definition_text (string_bytes e.0) e.1)

-- the root's line, and the lines of the others by name
abbrev pub schema_lines : Schema → List ℕ
schema_lines s =
    let root = string_bytes s.root in
    root_line root (get_by_text s.definitions root) ++ flat_map (other_text root) s.definitions.entries
