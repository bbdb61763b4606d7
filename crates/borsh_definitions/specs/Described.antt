-- The definitions of a type and of a map, with the names of fields and variants.
use Rattle.std.specs.Prelude.{◌≡◌, ◌⊎◌, ℕ, List, Option, None}
pub use Rattle.borsh_walks.specs.Forms.{Form, primitive, sequence, tuple, choice, named, unnamed, no_fields, field_bytes, variant_bytes, form_of_struct, form_of, forms_in, shape_of_form, shapes}

-- definitions, as a function of the name
abbrev pub DefinitionMap : Type 0
DefinitionMap = List ℕ → Option Form

-- nothing is defined
abbrev pub nothing_defined : DefinitionMap
nothing_defined n = None

-- definitions, as a type brings them: its own, and those of its parts
pub data DefinitionTree : Type 0 where
  none : DefinitionTree
  -- a name with its definition, and what else there is
  defined : List ℕ → Form → DefinitionTree → DefinitionTree
  both : DefinitionTree → DefinitionTree → DefinitionTree

-- the name is given the definition
abbrev pub IsInTree : List ℕ → Form → DefinitionTree → Type 0
IsInTree n d none = ⊥
IsInTree n d (defined m e ps) = ((m ≡ n) × (e ≡ d)) ⊎ IsInTree n d ps
IsInTree n d (both ps qs) = IsInTree n d ps ⊎ IsInTree n d qs
