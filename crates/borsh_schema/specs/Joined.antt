-- Maps of definitions that are joined with those of a type.
use Rattle.std.specs.Prelude.{◌≡◌, ℕ, List, Some, ◌⊎◌, ⊤, String, string_bytes, MatchResult, OnOk, IfErr, Result}
use Rattle.std.specs.Global.{Global}
use Rattle.std.specs.BTreeMap.{BTreeMap}
use Rattle.borsh_walks.specs.declared.definition.Definition.{Definition}
use Rattle.borsh_schema.specs.declared.definitions.SchemaBuildError.{SchemaBuildError}
use Rattle.borsh_schema.specs.declared.definitions.SchemaBuildError.TheVariants.{Redefinition, OutOfMemory}
use Rattle.borsh_definitions.specs.Described.{Form, form_of, DefinitionMap, forms_in, nothing_defined, DefinitionTree, defined, IsInTree}

-- the name has the definition in the old definitions, or among the new parts
abbrev pub IsDefinedIn : DefinitionMap → DefinitionTree → List ℕ → Form → Type 0
IsDefinedIn old ps n d = (old n ≡ Some d) ⊎ IsInTree n d ps

-- the new definitions are the old ones and all of the parts
pub record IsUnion (old : DefinitionMap) (ps : DefinitionTree) (new : DefinitionMap) : Type 0 where
  pub keeps : (n : List ℕ) (d : Form) → old n ≡ Some d → new n ≡ Some d
  pub has : (n : List ℕ) (d : Form) → IsInTree n d ps → new n ≡ Some d
  pub only : (n : List ℕ) (d : Form) → new n ≡ Some d → IsDefinedIn old ps n d

-- the new definitions are the old ones and some of the parts
pub record IsPartialUnion (old : DefinitionMap) (ps : DefinitionTree) (new : DefinitionMap) : Type 0 where
  pub keeps : (n : List ℕ) (d : Form) → old n ≡ Some d → new n ≡ Some d
  pub only : (n : List ℕ) (d : Form) → new n ≡ Some d → IsDefinedIn old ps n d

-- the name has two definitions in the old ones and the parts together
pub record Conflicts (old : DefinitionMap) (ps : DefinitionTree) (n : List ℕ) : Type 0 where
  pub first : Form
  pub second : Form
  pub has_first : IsDefinedIn old ps n first
  pub has_second : IsDefinedIn old ps n second
  pub apart : first ≡ second → ⊥

-- no name has two definitions
abbrev pub AreConsistent : DefinitionTree → Type 0
AreConsistent ps = (n : List ℕ) → Conflicts nothing_defined ps n → ⊥

-- the error is a name with two definitions, or an allocation failed
abbrev pub BuildFault : DefinitionMap → DefinitionTree → SchemaBuildError → Type 0
BuildFault old ps (Redefinition m) = Conflicts old ps (string_bytes m)
BuildFault old ps OutOfMemory = ⊤

-- a call that was to add the parts failed: perhaps some of them were added, and the error says why
pub record UnionFails (old : DefinitionMap) (ps : DefinitionTree) (new : DefinitionMap) (e : SchemaBuildError) : Type 0 where
  pub partly : IsPartialUnion old ps new
  pub fault : BuildFault old ps e

-- the outcome of a call that is to add definitions to a map
pub record AddsDefinitions (old new : BTreeMap (String Global) Definition) (added : DefinitionTree) (result : Result (Unit {0}) SchemaBuildError) : Type 0 where
  -- `Ok`: the map has the definitions that it had and all that were to be added, and no others
  pub ok : OnOk result (IsUnion (forms_in old) added (forms_in new))
  -- `Err`: the map has what it had and perhaps some of the others; a name has two definitions, or an allocation failed
  pub err : IfErr result (λ e. UnionFails (forms_in old) added (forms_in new) e)

-- a definition under its name, and the definitions of its parts
abbrev pub definition_with : String Global → Definition → DefinitionTree → DefinitionTree
definition_with name definition parts = defined (string_bytes name) (form_of definition) parts

-- the name is defined, as `known`: a definition that says the same is passed over, and any other one is refused
abbrev pub IsKnownAnswer : Form → Form → SchemaBuildError → Result (Unit {0}) SchemaBuildError → Type 0
IsKnownAnswer known d clash r = MatchResult r (λ _. known ≡ d) (λ e. (e ≡ clash) × (known ≡ d → ⊥))

-- where the name is defined in the map, a definition that says the same is passed over, and any other one is refused by that name
abbrev pub AnswersKnown : BTreeMap (String Global) Definition → String Global → Definition → Result (Unit {0}) SchemaBuildError → Type 0
AnswersKnown m name definition r = (d : Form) → forms_in m (string_bytes name) ≡ Some d → IsKnownAnswer d (form_of definition) (Redefinition name) r
