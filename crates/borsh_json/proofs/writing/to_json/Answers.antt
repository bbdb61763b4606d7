use Rattle.std.proofs.Common.{string_bytes}
use Rattle.std.specs.Prelude.{IfOk, IfErr}
use Rattle.borsh_walks.specs.Definitions.{definitions_in}
use Rattle.borsh_json.specs.{Errors.{IsNoJsonReason}, Forms.{forms_in}, InOrder.{TextRepresents, IsRepresented}, Printed.{HasQuotedNumbers}, NoValue.{IsGivenUp}}
use Rattle.borsh_json.proofs.PlanLaws.{by_plan}
use Rattle.borsh_json.proofs.writing.to_json.Goals as goal

pub returns-clause-says : goal.returns-clause-says
returns-clause-says c =
    by_plan (λ root map. IfOk c.to_json.result (λ text. TextRepresents (forms_in map) root (string_bytes text) c.args.bytes.now)) c.in_ok-json.json c.in_ok-plan.plan c.in_ok-json.ensures c.in_ok-plan.ensures c.to_json.ensures.says

pub returns-clause-reason : goal.returns-clause-reason
returns-clause-reason c =
    by_plan (λ root map. IfErr c.to_json.result (λ e. IsNoJsonReason (definitions_in map) root c.args.bytes.now e)) c.in_ok-json.json c.in_ok-plan.plan c.in_ok-json.ensures c.in_ok-plan.ensures c.to_json.ensures.reason

pub returns-clause-quoted : goal.returns-clause-quoted
returns-clause-quoted c = λ e.
    by_plan (λ root map. IfOk c.to_json.result (λ text. HasQuotedNumbers (forms_in map) root (string_bytes text))) c.in_ok-json.json c.in_ok-plan.plan c.in_ok-json.ensures c.in_ok-plan.ensures (c.to_json.ensures.quoted e)

pub returns-clause-complete : goal.returns-clause-complete
returns-clause-complete c =
    by_plan (λ root map. IsRepresented (forms_in map) root c.args.bytes.now → IfErr c.to_json.result (λ e. IsGivenUp e)) c.in_ok-json.json c.in_ok-plan.plan c.in_ok-json.ensures c.in_ok-plan.ensures c.to_json.ensures.complete
