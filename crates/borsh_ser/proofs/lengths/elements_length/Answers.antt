use Rattle.std.proofs.Common.{[], arith, refl}
use Rattle.borsh_codec.proofs.LengthSteps.{length_more}
use Rattle.borsh_ser.proofs.lengths.elements_length.Goals as goal

pub loop-item-init : goal.loop-item-init
loop-item-init g c = record { short = omega arith; few = omega arith; long = record { bytes = []; is = refl; long = refl } }

pub loop-item-preserved : goal.loop-item-preserved
loop-item-preserved g c =
    let at = c.loop-item in
    let long = length_more g.T.BorshType.codec.encoding c.args.items.now at.item-index c.item-item.result (omega arith) c.item-item.is at.invariant.long c.in_ok-encoded_length.ensures in
    record {
      short = at.invariant.short;
      few = omega (arith, at.invariant.few, c.from.ensures);
      long = rw c.from.ensures long;
    }
