use Rattle.std.proofs.Common.{sym, ◌∙◌}
use Rattle.borsh_codec.proofs.LengthSteps.{tells_is}
use Rattle.borsh_ser.proofs.Halves.{parts_count, parts_joined}
use Rattle.borsh_ser.proofs.linked.queue_length.Goals as goal

pub returns : goal.returns
returns g c =
    let front = c.as_slices.result.0.now in
    let back = c.as_slices.result.1.now in
    let items = c.args.queue.now.items in
    let count = parts_count front back items c.len.result c.as_slices.ensures.items (c.as_slices.ensures.len ∙ sym c.len.ensures) in
    let parts = parts_joined g.T.BorshType.codec.encoding front back items c.as_slices.ensures.items in
    let elements = c.joined_length-elements.ensures _ _ c.elements_length.ensures c.elements_length-2.ensures in
    c.joined_length.ensures _ _ (tells_is _ count c.count_length.ensures) (tells_is _ parts elements)
