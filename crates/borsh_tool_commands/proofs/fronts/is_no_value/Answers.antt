use Rattle.std.proofs.Common.{◌<◌, arith, length}
use Rattle.std.proofs.lemmas.Bool.Decides.{nat_tests}
use Rattle.borsh_plan.specs.Plan.{definitions_of, root_of}
use Rattle.borsh_tool_commands.proofs.FrontLaws.{more-than-value}
use Rattle.borsh_tool_commands.proofs.fronts.is_no_value.Goals as goal

pub returns-in-Ok-Value : goal.returns-in-Ok-Value
returns-in-Ok-Value c =
    let f = rw c.in-Ok-Value.field-0-is at c.in-Ok-Value.ensures in
    λ h more m.
    let low : c.in-Ok-Value.length < length c.args.bytes.now = grind (arith, nat_tests) in
    more-than-value (definitions_of c.args.plan.now) (root_of c.args.plan.now) c.args.bytes.now c.in-Ok-Value.length f.answer low more m
