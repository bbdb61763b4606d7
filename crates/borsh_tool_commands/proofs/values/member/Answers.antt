use Rattle.std.proofs.Common.{false, subst}
use Rattle.borsh_walks.specs.Definitions.{definitions_in}
use Rattle.borsh_values.specs.Membership.{IsAnswer}
use Rattle.borsh_tool_commands.proofs.Told.{no_told}
use Rattle.borsh_tool_commands.proofs.values.member.Goals as goal

pub returns-in_ok-no-in-NoMember-clause-ok : goal.returns-in_ok-no-in-NoMember-clause-ok
returns-in_ok-no-in-NoMember-clause-ok c =
    let C = definitions_in c.args.schema.now.definitions in
    let none = (subst (λ m. IsAnswer C c.as_str.result.now c.args.bytes.now m) c.in-NoMember.is c.in_ok-is_member.ensures.answer).0 in
    no_told c.args.schema.now.definitions _ false c.as_str.ensures.value none c.in_ok-no-in-NoMember.ensures
