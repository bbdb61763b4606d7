-- The outcome of a call that adds definitions, where those of the last part depend on what the first part left.
use Rattle.std.proofs.Common.{◌≡◌, Result, Ok, subst, String, Global}
use Rattle.std.specs.BTreeMap.{BTreeMap}
use Rattle.borsh_walks.specs.declared.definition.Definition.{Definition}
use Rattle.borsh_schema.specs.declared.definitions.SchemaBuildError.{SchemaBuildError}
use Rattle.borsh_definitions.specs.Described.{DefinitionTree, both}
use Rattle.borsh_schema.specs.Joined.{AddsDefinitions}
use Rattle.borsh_schema.proofs.Outcomes.{adds_then}

-- a map of the program
abbrev Map : Type 0
Map = BTreeMap (String Global) Definition

pub adds_then_left : {X : Type 0} {a b c : Map} {ps : DefinitionTree} {u : Unit {0}} {r : Result (Unit {0}) SchemaBuildError} (qs : X → DefinitionTree) {x y : X} → x ≡ y → AddsDefinitions a b ps (Ok u) → AddsDefinitions b c (qs x) r → AddsDefinitions a c (both ps (qs y)) r
adds_then_left {b = b} {c = c} {r = r} qs e p q = adds_then p (subst (λ x. AddsDefinitions b c (qs x) r) e q)
