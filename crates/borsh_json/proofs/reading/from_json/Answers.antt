use Rattle.std.proofs.Common.{◌≡◌, ℕ, List, Some, IfOk, IfErr, OnOk, MatchResult}
use Rattle.json.specs.Json.{Json, document}
use Rattle.borsh_walks.specs.Definitions.{definitions_in}
use Rattle.borsh_json.specs.{Errors.{IsTextReason}, Forms.{forms_in}, InOrder.{InOrder, TextRepresents}, NoValue.{ShowsNoValue, IsGivenUp}, Represents.{TextSays}}
use Rattle.borsh_json.proofs.PlanLaws.{by_plan}
use Rattle.borsh_json.proofs.reading.from_json.Goals as goal

pub returns-clause-says : goal.returns-clause-says
returns-clause-says c =
    by_plan (λ root map. IfOk c.from_json.result (λ bytes. TextSays (forms_in map) root c.args.text.now bytes.items)) c.in_ok-json.json c.in_ok-plan.plan c.in_ok-json.ensures c.in_ok-plan.ensures c.from_json.ensures.says

pub returns-clause-determined : goal.returns-clause-determined
returns-clause-determined c =
    by_plan (λ root map. (bytes : List ℕ) → TextSays (forms_in map) root c.args.text.now bytes → IfOk c.from_json.result (λ found. found.items ≡ bytes)) c.in_ok-json.json c.in_ok-plan.plan c.in_ok-json.ensures c.in_ok-plan.ensures c.from_json.ensures.determined

pub returns-clause-in_order : goal.returns-clause-in_order
returns-clause-in_order c =
    by_plan (λ root map. (j : Json) → document c.args.text.now ≡ Some j → OnOk c.from_json.result (InOrder (forms_in map) root j)) c.in_ok-json.json c.in_ok-plan.plan c.in_ok-json.ensures c.in_ok-plan.ensures c.from_json.ensures.in_order

pub returns-clause-answers : goal.returns-clause-answers
returns-clause-answers c =
    by_plan (λ root map. (bytes : List ℕ) → TextRepresents (forms_in map) root c.args.text.now bytes → MatchResult c.from_json.result (λ found. found.items ≡ bytes) (λ e. IsGivenUp e)) c.in_ok-json.json c.in_ok-plan.plan c.in_ok-json.ensures c.in_ok-plan.ensures c.from_json.ensures.answers

pub returns-clause-denies : goal.returns-clause-denies
returns-clause-denies c =
    by_plan (λ root map. IfErr c.from_json.result (λ e. ShowsNoValue (forms_in map) root c.args.text.now e)) c.in_ok-json.json c.in_ok-plan.plan c.in_ok-json.ensures c.in_ok-plan.ensures c.from_json.ensures.denies

pub returns-clause-reason : goal.returns-clause-reason
returns-clause-reason c =
    by_plan (λ root map. IfErr c.from_json.result (λ e. IsTextReason (definitions_in map) root c.args.text.now e)) c.in_ok-json.json c.in_ok-plan.plan c.in_ok-json.ensures c.in_ok-plan.ensures c.from_json.ensures.reason
