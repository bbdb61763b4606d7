use Rattle.std.proofs.Common.{sym, ◌∙◌, false}
use Rattle.borsh_codec.specs.Shapes.{concat_encodings}
use Rattle.borsh_codec.proofs.WriteOutcomes.{writes_exit_first, writes_is, writes_then, writes_again, writes_again_exit}
use Rattle.borsh_ser.proofs.Halves.{parts_count, parts_joined}
use Rattle.borsh_ser.proofs.linked.write_queue.Goals as goal

pub returns-in_err-write_count : goal.returns-in_err-write_count
returns-in_err-write_count g c =
    let count = parts_count c.as_slices.result.0.now c.as_slices.result.1.now c.args.queue.now.items c.len.result c.as_slices.ensures.items (c.as_slices.ensures.len ∙ sym c.len.ensures) in
    writes_exit_first g.met.W.Write.lawful _ _ _ c.from_residual.ensures.1 (writes_is count c.in_err-write_count.ensures)

pub returns-in_err-write_elements : goal.returns-in_err-write_elements
returns-in_err-write_elements g c =
    let laws = g.met.W.Write.lawful in
    let f = g.T.BorshType.codec.encoding in
    let count = parts_count c.as_slices.result.0.now c.as_slices.result.1.now c.args.queue.now.items c.len.result c.as_slices.ensures.items (c.as_slices.ensures.len ∙ sym c.len.ensures) in
    let parts = parts_joined f c.as_slices.result.0.now c.as_slices.result.1.now c.args.queue.now.items c.as_slices.ensures.items in
    writes_then laws false (writes_is count c.in_ok-write_count.ensures) (writes_is parts (writes_again_exit laws (concat_encodings f c.as_slices.result.1.now) _ c.from_residual-in_err-write_elements.ensures.1 c.in_err-write_elements.ensures))

pub returns : goal.returns
returns g c =
    let laws = g.met.W.Write.lawful in
    let count = parts_count c.as_slices.result.0.now c.as_slices.result.1.now c.args.queue.now.items c.len.result c.as_slices.ensures.items (c.as_slices.ensures.len ∙ sym c.len.ensures) in
    let parts = parts_joined g.T.BorshType.codec.encoding c.as_slices.result.0.now c.as_slices.result.1.now c.args.queue.now.items c.as_slices.ensures.items in
    writes_then laws false (writes_is count c.in_ok-write_count.ensures) (writes_is parts (writes_again laws c.in_ok-write_elements.ensures c.write_elements-2.ensures))
