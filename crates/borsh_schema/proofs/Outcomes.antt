-- The outcome of a call that adds definitions, from those of the calls that it makes.
use Rattle.std.proofs.Common.{◌≡◌, ◌∙◌, ℕ, List, Result, Ok, Err, sym, ap, subst, String, Global}
use Rattle.std.specs.BTreeMap.{BTreeMap}
use Rattle.std.specs.Result.{IsErrAnd}
use Rattle.std.proofs.lemmas.Result.{err_from_is_err_and, on_ok_weaker, IfErr-weaker}
use Rattle.borsh_walks.specs.declared.definition.Definition.{Definition}
use Rattle.borsh_schema.specs.declared.definitions.SchemaBuildError.{SchemaBuildError}
use Rattle.borsh_definitions.specs.Described.{Form, DefinitionTree, none, defined, both}
use Rattle.borsh_schema.specs.Joined.{AddsDefinitions}
use Rattle.borsh_schema.proofs.Laws.Joining.{joined_then, joined_defined, not_joined_first, not_joined_then, not_joined_defined}

-- a map of the program
abbrev Map : Type 0
Map = BTreeMap (String Global) Definition

-- the exit of a `?` behind the first parts, which were refused
pub adds_exit_first : {a b : Map} {ps : DefinitionTree} (qs : DefinitionTree) (e : SchemaBuildError) {r : Result (Unit {0}) SchemaBuildError} → IsErrAnd r (λ y. y ≡ e) → AddsDefinitions a b ps (Err e) → AddsDefinitions a b (both ps qs) r
adds_exit_first {a = a} {b = b} {ps = ps} qs e {r = r} is f =
    let p = err_from_is_err_and r is in
    subst (AddsDefinitions a b (both ps qs)) (sym (p.1 ∙ ap (λ y. Err y) p.2)) (record { ok = tt; err = not_joined_first qs f.err })

-- the last call, after the first parts were added
pub adds_then : {a b c : Map} {ps qs : DefinitionTree} {x : Unit {0}} {r : Result (Unit {0}) SchemaBuildError} → AddsDefinitions a b ps (Ok x) → AddsDefinitions b c qs r → AddsDefinitions a c (both ps qs) r
adds_then {r = r} p q = record {
  ok = on_ok_weaker r (joined_then p.ok) q.ok;
  err = IfErr-weaker r _ _ (λ e h. not_joined_then p.ok h) q.err;
}

-- a definition and then the parts are the definition with its parts
pub adds_defined : {a b : Map} {n : List ℕ} {d : Form} {ps : DefinitionTree} {r : Result (Unit {0}) SchemaBuildError} → AddsDefinitions a b (both (defined n d none) ps) r → AddsDefinitions a b (defined n d ps) r
adds_defined {r = r} q = record { ok = on_ok_weaker r joined_defined q.ok; err = IfErr-weaker r _ _ (λ e h. not_joined_defined h) q.err }
