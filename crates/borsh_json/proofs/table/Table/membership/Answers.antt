use Rattle.std.proofs.Common.{subst, IfOk}
use Rattle.borsh_plan.specs.Plan.{definitions_of, root_of}
use Rattle.borsh_values.specs.Membership.{IsAnswer}
use Rattle.borsh_json.specs.declared.definitions.Definitions.{Definitions}
use Rattle.borsh_json.proofs.table.Table.membership.Goals as goal

pub returns : goal.returns
returns c = subst (λ (d : Definitions). IfOk c.is_member_of.result (λ a. IsAnswer (definitions_of d.plan.now) (root_of d.plan.now) c.args.bytes.now a)) c.self.view_is c.is_member_of.ensures.answer
