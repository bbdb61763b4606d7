use Rattle.std.specs.Prelude.{IfErr, OnOk}
use Rattle.borsh_walks.specs.{Container.{Member}, Definitions.{definitions_in}}
use Rattle.borsh_json.specs.{Errors.{IsNoJsonReason}, Forms.{forms_in}, InOrder.{IsRepresented}, NoValue.{IsGivenUp}}
use Rattle.borsh_json.proofs.PlanLaws.{by_plan}
use Rattle.borsh_json.proofs.strict.check_strict.Goals as goal

pub returns-clause-member : goal.returns-clause-member
returns-clause-member c =
    by_plan (λ root map. OnOk c.check_strict.result (Member (definitions_in map) root c.args.bytes.now)) c.in_ok-json.json c.in_ok-plan.plan c.in_ok-json.ensures c.in_ok-plan.ensures c.check_strict.ensures.member

pub returns-clause-represented : goal.returns-clause-represented
returns-clause-represented c =
    by_plan (λ root map. OnOk c.check_strict.result (IsRepresented (forms_in map) root c.args.bytes.now)) c.in_ok-json.json c.in_ok-plan.plan c.in_ok-json.ensures c.in_ok-plan.ensures c.check_strict.ensures.represented

pub returns-clause-reason : goal.returns-clause-reason
returns-clause-reason c =
    by_plan (λ root map. IfErr c.check_strict.result (λ e. IsNoJsonReason (definitions_in map) root c.args.bytes.now e)) c.in_ok-json.json c.in_ok-plan.plan c.in_ok-json.ensures c.in_ok-plan.ensures c.check_strict.ensures.reason

pub returns-clause-complete : goal.returns-clause-complete
returns-clause-complete c =
    by_plan (λ root map. IsRepresented (forms_in map) root c.args.bytes.now → IfErr c.check_strict.result (λ e. IsGivenUp e)) c.in_ok-json.json c.in_ok-plan.plan c.in_ok-json.ensures c.in_ok-plan.ensures c.check_strict.ensures.complete
