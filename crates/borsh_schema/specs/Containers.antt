-- A container: a root's name and a map of definitions.
use Rattle.std.specs.Prelude.{◌≡◌, ℕ, List, Option, Some, String, string_bytes}
use Rattle.std.specs.Global.{Global}
use Rattle.std.specs.BTreeMap.{BTreeMap, get_by_text}
use Rattle.std.specs.Map.{update}
use Rattle.std.specs.Str.{bytes_eq}
use Rattle.borsh_codec.specs.Codec.{Codec}
use Rattle.borsh_walks.specs.Container.{Shape, Member}
use Rattle.borsh_walks.specs.Definitions.{definitions_in}
use Rattle.borsh_walks.specs.declared.definition.Definition.{Definition}
use Rattle.borsh_schema.specs.declared.container.BorshSchemaContainer.{BorshSchemaContainer}
use Rattle.borsh_schema.specs.declared.container.Definitions.{Definitions}
use Rattle.borsh_definitions.specs.Described.{DefinitionMap, forms_in, nothing_defined, DefinitionTree}
use Rattle.borsh_schema.specs.Joined.{IsUnion}

-- the root
abbrev pub declaration_of : BorshSchemaContainer → String Global
declaration_of c = c.declaration

-- the root's name
abbrev pub root_of : BorshSchemaContainer → List ℕ
root_of c = string_bytes c.declaration

-- the map of definitions
abbrev pub map_of : BorshSchemaContainer → BTreeMap (String Global) Definition
map_of c = c.definitions

-- the definition of a name
abbrev pub definition_of : BorshSchemaContainer → List ℕ → Option Definition
definition_of c name = get_by_text (map_of c) name

-- the name has this definition now, and each other name the one that it had before
abbrev pub ReplacesDefinition : BorshSchemaContainer → BorshSchemaContainer → List ℕ → Option Definition → Type 0
ReplacesDefinition old new name d = (n : List ℕ) → definition_of new n ≡ update bytes_eq (definition_of old) name d n

-- the definitions, as a function of the name
abbrev pub defined_in : BorshSchemaContainer → DefinitionMap
defined_in c = forms_in (map_of c)

-- the same, as the walks and the language see them
abbrev pub language_of : BorshSchemaContainer → List ℕ → Option Shape
language_of c = definitions_in (map_of c)

-- what an iterator over the definitions has left
abbrev pub left_of : Definitions → List (String Global × Definition)
left_of d = d.entries

-- the container of a type: its name, and its definitions and no other
pub record IsContainerOf (name : List ℕ) (parts : DefinitionTree) (c : BorshSchemaContainer) : Type 0 where
  pub root : root_of c ≡ name
  pub definitions : IsUnion nothing_defined parts (defined_in c)

-- each encoding is a member of the container's root
abbrev pub DescribesRoot : {A : Type 0} → Codec A → BorshSchemaContainer → Type 0
DescribesRoot {A = A} c container = (a : A) (x : List ℕ) → c.encoding a ≡ Some x → Member (language_of container) (root_of container) x
