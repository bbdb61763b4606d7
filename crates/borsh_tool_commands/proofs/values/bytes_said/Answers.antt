use Rattle.std.proofs.Common.{ℕ, List, subst}
use Rattle.borsh_json.specs.Forms.{forms_in}
use Rattle.borsh_json.specs.InOrder.{TextRepresents}
use Rattle.borsh_tool_commands.proofs.values.bytes_said.Goals as goal

pub returns-in-Ok-from_json-clause-ok : goal.returns-in-Ok-from_json-clause-ok
returns-in-Ok-from_json-clause-ok c =
    let F = forms_in c.args.schema.now.definitions in
    let bytes = c.in-Ok-from_json.bytes.items in
    let s = c.in-Ok-from_json.ensures.says in
    let said = subst (λ (text : List ℕ). TextRepresents F c.as_str.result.now text bytes) c.in-Ok.ensures.cases.0 (s.0, s.1, s.2, s.3, c.in-Ok-from_json.ensures.in_order s.0 s.1) in
    subst (λ (root : List ℕ). TextRepresents F root c.args.json.now bytes) c.as_str.ensures.value said
