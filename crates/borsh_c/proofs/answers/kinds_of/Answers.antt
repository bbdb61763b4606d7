use Rattle.std.proofs.Common.{string_bytes}
use Rattle.borsh_plan.specs.Plan.{names_of, parts_of, planned}
use Rattle.borsh_c.specs.Answers.{TellsKinds}
use Rattle.borsh_c.proofs.Records.{by_json, by_plan}
use Rattle.borsh_c.proofs.Told.{about_told}
use Rattle.borsh_c.proofs.answers.kinds_of.Goals as goal

pub returns-clause-ok : goal.returns-clause-ok
returns-clause-ok c =
    let kinds = TellsKinds (string_bytes c.in_ok-names.field-0) in
    let plan = c.in_ok-plan.plan in
    let json = c.in_ok-new.field-0 in
    let told = by_json kinds json plan c.in_ok-new.ensures (names_of json.plan.now, parts_of json.plan.now, planned json.plan.now, c.in_ok-names.ensures) in
    about_told (c.in_ok-root.root, c.in_ok-root.definitions) c.in_ok-root.ensures.ok c.as_str.result.now c.as_str.ensures.value kinds (by_plan kinds plan c.in_ok-plan.ensures told)
