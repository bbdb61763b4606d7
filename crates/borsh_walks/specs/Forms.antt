-- A definition with the names of its fields and variants, and a map of these as a function of the name.
use Rattle.std.specs.Prelude.{ℕ, ℤ, List, [], map, Option, option_map, String, string_bytes}
use Rattle.std.specs.Global.{Global}
use Rattle.std.specs.BTreeMap.{BTreeMap, get_by_text}
use Rattle.borsh_walks.specs.declared.definition.Definition.{Definition}
use Rattle.borsh_walks.specs.declared.definition.Definition.TheVariants.{Primitive, Sequence, Tuple, Enum, Struct}
use Rattle.borsh_walks.specs.declared.definition.Fields.{Fields}
use Rattle.borsh_walks.specs.declared.definition.Fields.TheVariants.{NamedFields, UnnamedFields, Empty}
use Rattle.borsh_walks.specs.Container.{Shape}
use Rattle.borsh_walks.specs.Container as shape

-- a definition with all its names, as the bytes of their texts
pub data Form : Type 0 where
  -- so many bytes
  primitive : ℕ → Form
  -- the width of the count, the least and the greatest count, the element
  sequence : ℕ → ℕ → ℕ → List ℕ → Form
  -- the elements
  tuple : List (List ℕ) → Form
  -- the width of the tag; discriminant, name and type of each variant
  choice : ℕ → List (ℤ × List ℕ × List ℕ) → Form
  -- a struct: name and type of each field
  named : List (List ℕ × List ℕ) → Form
  -- a struct: the type of each field
  unnamed : List (List ℕ) → Form
  -- a struct without fields
  no_fields : Form

-- a field's name and type
abbrev pub field_bytes : String Global × String Global → List ℕ × List ℕ
field_bytes f = (string_bytes f.0, string_bytes f.1)

-- a variant's discriminant, name and type
abbrev pub variant_bytes : ℤ × String Global × String Global → ℤ × List ℕ × List ℕ
variant_bytes v = (v.0, string_bytes v.1, string_bytes v.2)

-- the fields of a struct
abbrev pub form_of_struct : Fields → Form
form_of_struct (NamedFields fs) = named (map field_bytes fs.items)
form_of_struct (UnnamedFields fs) = unnamed (map (λ f. string_bytes f) fs.items)
form_of_struct Empty = no_fields

-- a definition of the program
abbrev pub form_of : Definition → Form
form_of (Primitive n) = primitive n
form_of (Sequence w r e) = sequence w r.start r.end (string_bytes e)
form_of (Tuple es) = tuple (map (λ e. string_bytes e) es.items)
form_of (Enum w vs) = choice w (map variant_bytes vs.items)
form_of (Struct fs) = form_of_struct fs

-- the definitions of a map, by the bytes of a name
abbrev pub forms_in : {A : Type 0} → BTreeMap (String A) Definition → List ℕ → Option Form
forms_in m x = option_map form_of (get_by_text m x)

-- a definition without the names of its fields and variants
abbrev pub shape_of_form : Form → Shape
shape_of_form (primitive n) = shape.primitive n
shape_of_form (sequence w lo hi e) = shape.sequence w lo hi e
shape_of_form (tuple ps) = shape.product ps
shape_of_form (choice w vs) = shape.choice w (map (λ v. (v.0, v.2)) vs)
shape_of_form (named fs) = shape.product (map (λ f. f.1) fs)
shape_of_form (unnamed ps) = shape.product ps
shape_of_form no_fields = shape.product []

-- each of these so, as the language of a container is read
abbrev pub shapes : (List ℕ → Option Form) → List ℕ → Option Shape
shapes F x = option_map shape_of_form (F x)
