use Rattle.std.proofs.Common.{refl, arith, subst}
use Rattle.borsh_plan.specs.Plan.{root_of}
use Rattle.borsh_values.proofs.Bytes.{small_bytes}
use Rattle.borsh_json.specs.{declared.error.JsonError.{JsonError}, declared.error.Refusal.{Refusal}, Found.{forms_of}, NoJson.{RefusesBytes}, NoValue.{path_steps}, Writes.{StopsBy}}
use Rattle.borsh_json.proofs.CompleteLaws.{descends}
use Rattle.borsh_json.proofs.table.Table.check_order.Goals as goal

pub returns-in-Err-Refused-default-Descends-clause-falls : goal.returns-in-Err-Refused-default-Descends-clause-falls
returns-in-Err-Refused-default-Descends-clause-falls c j h =
    let d = c.args.self.now in
    let F = forms_of d in
    let root = root_of d.plan.now in
    let bytes = c.args.bytes.now in
    let e = c.in-Err-Refused-default-Descends in
    let s = subst (λ (error : JsonError). StopsBy d bytes error) e.field-0-is e.ensures.stops in
    let falls = subst (λ (r : Refusal). RefusesBytes F root bytes (path_steps e.path) r) e.field-0-1-is s.1 in
    (refl, s.0, descends F root bytes j (small_bytes bytes (λ k. let b = c.type_inv.bytes k in omega (arith, b))) h (path_steps e.path) falls)
