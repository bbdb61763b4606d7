use Rattle.borsh_codec.specs.Shapes.{length_prefixed}
use Rattle.borsh_codec.proofs.WriteOutcomes.{writes_allowed_if}
use Rattle.borsh_ser.proofs.Items.{refused_exit}
use Rattle.borsh_ser.proofs.linked.VecDequeBorshSerialize.serialize.Goals as goal

pub returns-in_err-refuse_empty : goal.returns-in_err-refuse_empty
returns-in_err-refuse_empty g c =
    let t = g.T.BorshType.codec in
    refused_exit g.met.W.Write.lawful t.is_zero_width (length_prefixed t) c.args.self.now.items _ _ c.from_residual.ensures.1 c.in_err-refuse_empty.ensures

pub returns : goal.returns
returns g c =
    let t = g.T.BorshType.codec in
    writes_allowed_if t.is_zero_width (length_prefixed t) c.args.self.now.items c.in_ok-refuse_empty.ensures c.write_queue.ensures
