use Rattle.std.proofs.Common.{◌∙◌, arith, subst, length-set}
use Rattle.borsh_plan.specs.Plan.{definitions_of, root_of}
use Rattle.borsh_values.specs.Membership.{IsFrontAnswer}
use Rattle.borsh_c.proofs.Records.{measured}
use Rattle.borsh_c.proofs.many.measure.Goals as goal

pub loop-count-preserved : goal.loop-count-preserved
loop-count-preserved c =
    let C = definitions_of c.args.plan.now in
    let root = root_of c.args.plan.now in
    let front = subst (IsFrontAnswer C root c.loop-count.left.now) c.in-Value.is c.in_ok-length.ensures.answer in
    let more = measured C root c.loop-count.lengths c.args.bytes.now c.loop-count.left.now c.loop-count.count c.in-Value.length (omega arith) c.loop-count.invariant.values c.loop-count.invariant.rest (omega arith) front in
    record { within = simp length-set (omega arith); values = more.0; rest = c.others-left.ensures ∙ more.1 }
