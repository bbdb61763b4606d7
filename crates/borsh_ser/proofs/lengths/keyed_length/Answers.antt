use Rattle.std.proofs.Common.{rules, ◌≡◌, ◌+◌}
use Rattle.borsh_ser.proofs.ItemLengths.{length_added, length_done}
use Rattle.borsh_ser.proofs.lengths.keyed_length.Goals as goal

pub loop-item-preserved : goal.loop-item-preserved
loop-item-preserved g c =
    let i = c.loop-item.invariant in
    let on = c.in-Some.ensures.goes.on i.finite in
    let longer : c.in_ok-sum-2.sum ≡ c.loop-item.sum + c.in_ok-encoded_length.field-0 = search rules in
    record { can = on.0; finite = on.1; sum = length_added c.in_ok-sum-2.sum longer i.sum c.in-Some.ensures.steps c.in_ok-encoded_length.ensures }

pub returns-clause-items : goal.returns-clause-items
returns-clause-items g c = λ es y. length_done es c.loop-item.invariant.sum c.in_default.ensures.steps y
