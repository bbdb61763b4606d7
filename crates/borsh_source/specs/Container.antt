-- The container of a type, and what a step towards it adds.
use Rattle.std.specs.Prelude.{◌≡◌, ℕ, List, [], map, Some, ◌⊎◌, slice_get, string_bytes}
use Rattle.std.specs.Borrow.{Bor}
use Rattle.borsh_walks.specs.Definitions.{definitions_in as shapes_in}
use Rattle.borsh_walks.specs.RulesAnswer.{RulesFault}
use Rattle.borsh_walks.specs.Errors.{broken_rule}
use Rattle.borsh_walks.specs.declared.error.SchemaContainerValidateError.{SchemaContainerValidateError}
use Rattle.borsh_definitions.specs.Described.{Form, DefinitionMap, forms_in}
use Rattle.borsh_source.specs.Lists.{IsListed, AreListed}
use Rattle.borsh_source.specs.Views.{Used, used}
use Rattle.borsh_source.specs.Forms.{Entry}
use Rattle.borsh_source.specs.Meaning.{Means, Defines}
use Rattle.borsh_source.specs.declared.tree.Source.{Source}
use Rattle.borsh_source.specs.declared.adding.Output.{Output}
use Rattle.borsh_source.specs.declared.compiling.Compiled.{Compiled}
use Rattle.borsh_source.specs.declared.error.CompileError.{CompileError}
use Rattle.borsh_source.specs.declared.error.CompileError.TheVariants.{Refused, OutOfMemory}
use Rattle.borsh_source.specs.declared.error.Cause.TheVariants.{Rule}

-- ---- steps

-- the new definitions are the old ones and these
pub record Adds (old new : DefinitionMap) (es : List Entry) : Type 0 where
  pub keeps : (n : List ℕ) (d : Form) → old n ≡ Some d → new n ≡ Some d
  pub has : (n : List ℕ) (d : Form) → IsListed (n, d) es → new n ≡ Some d
  pub only : (n : List ℕ) (d : Form) → new n ≡ Some d → (old n ≡ Some d) ⊎ IsListed (n, d) es

-- the new list is the old one, and these items where it lacked them
pub record Notes (old new : List Used) (us : List Used) : Type 0 where
  pub keeps : (i : ℕ) (u : Used) → slice_get old i ≡ Some u → slice_get new i ≡ Some u
  pub has : AreListed us new
  pub only : (u : Used) → IsListed u new → IsListed u old ⊎ IsListed u us

-- definitions and items were added that are meant so
pub record Brought (Meant : List Entry → List Used → Type 0) (d0 d1 : DefinitionMap) (u0 u1 : List Used) : Type 0 where
  pub entries : List Entry
  pub uses : List Used
  pub meant : Meant entries uses
  pub adds : Adds d0 d1 entries
  pub notes : Notes u0 u1 uses

abbrev pub definitions_so_far : Output → DefinitionMap
definitions_so_far o = forms_in o.definitions

abbrev pub uses_in : Output → List Used
uses_in o = map used o.uses.items

-- a step adds nothing
abbrev pub IsKept : Output → Output → Type 0
IsKept old new = (new.definitions ≡ old.definitions) × (new.uses ≡ old.uses)

-- a step adds definitions and items that are meant so
abbrev pub Brings : (List Entry → List Used → Type 0) → Output → Output → Type 0
Brings Meant old new = Brought Meant (definitions_so_far old) (definitions_so_far new) (uses_in old) (uses_in new)

-- these definitions and items, and no others
abbrev pub AreThese : List Entry → List Used → List Entry → List Used → Type 0
AreThese es us ds vs = (ds ≡ es) × (vs ≡ us)

-- ---- the whole

-- the type leads to the item: it uses it itself, or an item does to which it leads
pub data Leads (S : Source) (root : ℕ) : Used → Type 0 where
  at_once : {n : List ℕ} {ds : List Entry} {us : List Used} {u : Used} → Means S [] [] root n ds us → IsListed u us → Leads S root u
  through : {ds : List Entry} {us : List Used} {u v : Used} → Leads S root v → Defines S v ds us → IsListed u us → Leads S root u

-- what an item brings is there
pub record IsPresent (S : Source) (D : DefinitionMap) (all : List Used) (u : Used) : Type 0 where
  pub entries : List Entry
  pub uses : List Used
  pub defines : Defines S u entries uses
  pub there : (n : List ℕ) (d : Form) → IsListed (n, d) entries → D n ≡ Some d
  pub used : AreListed uses all

-- a definition is one that the type brings, or an item to which it leads
pub data IsBrought (S : Source) (root : ℕ) (e : Entry) : Type 0 where
  by_root : {n : List ℕ} {ds : List Entry} {us : List Used} → Means S [] [] root n ds us → IsListed e ds → IsBrought S root e
  by_item : {u : Used} {ds : List Entry} {us : List Used} → Leads S root u → Defines S u ds us → IsListed e ds → IsBrought S root e

-- the root and the definitions are those of the type at an index: the definitions that it and the items to which it leads bring, and no other
pub record IsMeaning (S : Source) (root : ℕ) (name : List ℕ) (D : DefinitionMap) : Type 0 where
  -- what the type brings by itself
  pub entries : List Entry
  pub uses : List Used
  pub means : Means S [] [] root name entries uses
  pub there : (n : List ℕ) (d : Form) → IsListed (n, d) entries → D n ≡ Some d
  -- the items to which it leads
  pub all : List Used
  pub used : AreListed uses all
  pub led : (u : Used) → IsListed u all → Leads S root u
  pub defined : (u : Used) → IsListed u all → IsPresent S D all u
  -- and nothing else
  pub only : (n : List ℕ) (d : Form) → D n ≡ Some d → IsBrought S root (n, d)

-- ---- refusals

-- the error says the rule and the name that the fault of a container says, or that an allocation failed
abbrev pub SaysFault : SchemaContainerValidateError → CompileError → Type 0
SaysFault f (Refused place cause name) = (rule : Bor (List ℕ)) × (cause ≡ Rule rule) × (broken_rule f ≡ Some (rule.now, string_bytes name))
SaysFault f OutOfMemory = Unit {0}

-- the error says a rule of the format that the container of the type breaks
pub record IsBroken (S : Source) (root : ℕ) (e : CompileError) : Type 0 where
  pub container : Compiled
  pub is : IsMeaning S root (string_bytes container.declaration) (forms_in container.definitions)
  pub fault : SchemaContainerValidateError
  pub broken : RulesFault (shapes_in container.definitions) (string_bytes container.declaration) fault
  pub says : SaysFault fault e
