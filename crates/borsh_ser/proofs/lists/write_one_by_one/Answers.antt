use Rattle.std.proofs.Common.{arith}
use Rattle.borsh_codec.proofs.WriteSteps.{so_far_none, so_far_more}
use Rattle.borsh_codec.proofs.WriteOutcomes.{so_far_exit}
use Rattle.borsh_codec.proofs.WriteRows.{all_joined-next}
use Rattle.borsh_ser.proofs.lists.write_one_by_one.Goals as goal

pub loop-item-init : goal.loop-item-init
loop-item-init g c = so_far_none g.met.W.Write.lawful _ _

pub loop-item-preserved : goal.loop-item-preserved
loop-item-preserved g c =
    so_far_more g.met.W.Write.lawful c.loop-item.invariant (all_joined-next g.T.BorshType.codec.encoding c.args.items.now c.loop-item.item-index c.item-item.result (omega arith) c.item-item.is) c.in_ok-serialize.ensures.ok

pub returns-in_err-serialize : goal.returns-in_err-serialize
returns-in_err-serialize g c =
    let next = all_joined-next g.T.BorshType.codec.encoding c.args.items.now c.loop-item.item-index c.item-item.result (omega arith) c.item-item.is in
    so_far_exit g.met.W.Write.lawful _ _ c.from_residual.ensures.1 c.loop-item.invariant next c.in_err-serialize.ensures.err
