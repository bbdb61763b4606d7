use Rattle.std.proofs.Common.{Ok}
use Rattle.borsh_plan.specs.Plan.{definitions_of}
use Rattle.borsh_values.proofs.Answers.{answers}
use Rattle.borsh_values.proofs.members.is_member_of.Goals as goal

pub returns : goal.returns
returns c = answers (definitions_of c.args.plan.now) (Ok c.whole.result) c.whole.ensures
