use Rattle.std.proofs.Common.{[], refl, subst}
use Rattle.borsh_walks.specs.Container.{Member}
use Rattle.borsh_walks.specs.Definitions.{definitions_in}
use Rattle.borsh_values.specs.Membership.{IsAnswer}
use Rattle.borsh_c.specs.Answers.{Alone, IsNoMember, IsUnclear}
use Rattle.borsh_c.proofs.Told.{about_told, fault_told, unclear_told}
use Rattle.borsh_c.proofs.answers.membership.Goals as goal

pub returns-in-Member-clause-ok : goal.returns-in-Member-clause-ok
returns-in-Member-clause-ok c =
    let m = subst (IsAnswer (definitions_in c.in_ok-root.definitions) c.as_str.result.now c.args.value.now) c.in-Member.is c.in_ok-is_member.ensures.answer in
    about_told (c.in_ok-root.root, c.in_ok-root.definitions) c.in_ok-root.ensures.ok c.as_str.result.now c.as_str.ensures.value (Alone (λ C root. Member C root c.args.value.now) []) (m, refl)

pub returns-in-NoMember-clause-err : goal.returns-in-NoMember-clause-err
returns-in-NoMember-clause-err c =
    let m = subst (IsAnswer (definitions_in c.in_ok-root.definitions) c.as_str.result.now c.args.value.now) c.in-NoMember.is c.in_ok-is_member.ensures.answer in
    fault_told (c.in_ok-root.root, c.in_ok-root.definitions) c.in_ok-root.ensures.ok c.as_str.result.now c.as_str.ensures.value (IsNoMember c.args.value.now) IsUnclear
    c.in_ok-said_of-in-NoMember.field-0 c.in_ok-said_of-in-NoMember.ensures.0 (m.0, (c.in-NoMember.fault, m.1, refl), c.in_ok-said_of-in-NoMember.ensures.1)

pub returns-clause-err : goal.returns-clause-err
returns-clause-err c =
    let m = subst (IsAnswer (definitions_in c.in_ok-root.definitions) c.as_str.result.now c.args.value.now) c.in-Ambiguous.is c.in_ok-is_member.ensures.answer in
    unclear_told (c.in_ok-root.root, c.in_ok-root.definitions) c.in_ok-root.ensures.ok c.as_str.result.now c.as_str.ensures.value m c.in_ok-unclear-in-Ambiguous.ensures
