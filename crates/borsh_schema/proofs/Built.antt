-- The definition that was added is the one that a type brings, under the type's name.
use Rattle.std.proofs.Common.{◌≡◌, ℕ, List, subst, String, Global}
use Rattle.std.specs.Prelude.{Result}
use Rattle.std.specs.BTreeMap.{BTreeMap}
use Rattle.borsh_walks.specs.declared.definition.Definition.{Definition}
use Rattle.borsh_schema.specs.declared.definitions.SchemaBuildError.{SchemaBuildError}
use Rattle.borsh_schema.specs.Joined.{AddsDefinitions}
use Rattle.borsh_definitions.specs.Described.{Form, DefinitionTree, defined}

-- the name and the definition that were added are the ones that were to be added
pub adds_as : {a b : BTreeMap (String Global) Definition} {n m : List ℕ} {d e : Form} {ps : DefinitionTree} {r : Result (Unit {0}) SchemaBuildError} → n ≡ m → d ≡ e → AddsDefinitions a b (defined n d ps) r → AddsDefinitions a b (defined m e ps) r
adds_as {a = a} {b = b} {n = n} {e = e} {ps = ps} {r = r} f g q =
    subst (λ k. AddsDefinitions a b (defined k e ps) r) f (subst (λ k. AddsDefinitions a b (defined n k ps) r) g q)
