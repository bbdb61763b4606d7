use Rattle.std.proofs.Common.{◌∙◌, ◌∷◌, [], ◌++◌, ℕ, List, ap, subst, sym, refl}
use Rattle.std.proofs.lemmas.List.{append_cancel_right}
use Rattle.std.specs.Prelude.{Vec, string_bytes}
use Rattle.std.specs.Global.{Global}
use Rattle.borsh_json.specs.Errors.{IsNoJsonReason}
use Rattle.borsh_json.specs.Forms.{forms_in}
use Rattle.borsh_json.specs.InOrder.{TextRepresents}
use Rattle.borsh_json.specs.NoJson.{ShowsNoJson}
use Rattle.borsh_json.specs.Printed.{HasQuotedNumbers}
use Rattle.borsh_walks.specs.Definitions.{definitions_in}
use Rattle.borsh_tool_commands.proofs.Failing.{led, reasoned}
use Rattle.borsh_tool_commands.proofs.values.json_text.Goals as goal

pub returns-in-Err-clause-err : goal.returns-in-Err-clause-err
returns-in-Err-clause-err c =
    let map = c.args.schema.now.definitions in
    led _ (λ h. h) (reasoned (λ r e. IsNoJsonReason (definitions_in map) r c.args.bytes.now e × ShowsNoJson (forms_in map) r c.args.bytes.now e) c.in-Err.error c.as_str.ensures.value (c.in-Err.ensures.reason, c.in-Err.ensures.refused)) (λ h. h) c.no_value.result c.no_value.ensures

pub returns-in_ok-end_line-in-Ok-clause-ok : goal.returns-in_ok-end_line-in-Ok-clause-ok
returns-in_ok-end_line-in-Ok-clause-ok c =
    let F = forms_in c.args.schema.now.definitions in
    let json = string_bytes c.in-Ok.json in
    let bytes = c.args.bytes.now in
    let says = subst (λ (r : List ℕ). TextRepresents F r json bytes) c.as_str.ensures.value c.in-Ok.ensures.says in
    let text = c.of-out.ensures ∙ ap (λ (v : Vec ℕ Global). v.items) c.into_bytes.ensures.value in
    let line = c.in_ok-end_line-in-Ok.ensures {u = tt} ∙ ap (λ (l : List ℕ). l ++ 10 ∷ []) text in
    (json, says, c.in-Ok.ensures.ascii refl, c.in-Ok.ensures.line, line)

pub returns-in_ok-end_line-in-Ok-clause-quoted : goal.returns-in_ok-end_line-in-Ok-clause-quoted
returns-in_ok-end_line-in-Ok-clause-quoted c = λ quoted text line.
    let json = string_bytes c.in-Ok.json in
    let bytes = c.of-out.ensures ∙ ap (λ (v : Vec ℕ Global). v.items) c.into_bytes.ensures.value in
    let printed = c.in_ok-end_line-in-Ok.ensures {u = tt} ∙ ap (λ (l : List ℕ). l ++ 10 ∷ []) bytes in
    let F = forms_in c.args.schema.now.definitions in
    let quotes = subst (λ (r : List ℕ). HasQuotedNumbers F r json) c.as_str.ensures.value (c.in-Ok.ensures.quoted quoted) in
    subst (HasQuotedNumbers F (string_bytes c.args.schema.now.root)) (append_cancel_right json text (10 ∷ []) (sym printed ∙ line)) quotes
