use Rattle.std.proofs.Common.{◌≡◌, rules}
use Rattle.std.specs.Prelude.{true}
use Rattle.borsh_walks.specs.Container.{Member}
use Rattle.borsh_walks.specs.Definitions.{definitions_in}
use Rattle.borsh_json.specs.Forms.{forms_in}
use Rattle.borsh_json.specs.InOrder.{IsRepresented}
use Rattle.borsh_json.specs.NoJson.{RefusesBytes}
use Rattle.borsh_json.specs.NoValue.{path_steps}
use Rattle.borsh_json.specs.declared.error.Refusal.TheVariants.{TooDeep}
use Rattle.borsh_tool_commands.proofs.Told.{no_told, refusal_told, yes_told}
use Rattle.borsh_tool_commands.proofs.values.strict_member.Goals as goal

pub returns-in_ok-yes-in-Ok-clause-ok : goal.returns-in_ok-yes-in-Ok-clause-ok
returns-in_ok-yes-in-Ok-clause-ok c =
    let e = c.in-Ok.ensures in
    yes_told c.args.schema.now.definitions c.as_str.ensures.value e.member e.represented c.in_ok-yes-in-Ok.ensures

pub returns-in_ok-no-in-Err-NoMember-clause-ok : goal.returns-in_ok-no-in-Err-NoMember-clause-ok
returns-in_ok-no-in-Err-NoMember-clause-ok c =
    let m = c.args.schema.now.definitions in
    let none : Member (definitions_in m) c.as_str.result.now c.args.bytes.now → ⊥ = search rules in
    no_told m _ true c.as_str.ensures.value none c.in_ok-no-in-Err-NoMember.ensures

pub returns-in_ok-no-in-Err-Refused-clause-ok : goal.returns-in_ok-no-in-Err-Refused-clause-ok
returns-in_ok-no-in-Err-Refused-clause-ok c =
    let m = c.args.schema.now.definitions in
    let is : Member (definitions_in m) c.as_str.result.now c.args.bytes.now = search rules in
    let steps = path_steps c.in-Err-Refused.part in
    let why : RefusesBytes (forms_in m) c.as_str.result.now c.args.bytes.now steps c.in-Err-Refused.refusal = search rules in
    let kept : IsRepresented (forms_in m) c.as_str.result.now c.args.bytes.now → c.in-Err-Refused.refusal ≡ TooDeep = search rules in
    refusal_told m _ steps c.in-Err-Refused.refusal c.as_str.ensures.value is why kept c.in_ok-no-in-Err-Refused.ensures
