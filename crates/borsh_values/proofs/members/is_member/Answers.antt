use Rattle.borsh_plan.proofs.Laws.{of_plan}
use Rattle.borsh_values.specs.Membership.{AnswersMembership}
use Rattle.borsh_values.proofs.members.is_member.Goals as goal

pub returns : goal.returns
returns c = of_plan (λ C root. AnswersMembership C root c.args.bytes.now c.is_member_of.result) c.in_ok-plan.ensures c.is_member_of.ensures
