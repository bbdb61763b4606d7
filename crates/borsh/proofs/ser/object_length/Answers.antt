use Rattle.std.proofs.Common.{rules, IfOk}
use Rattle.borsh_codec.specs.Writing.{IsLength}
use Rattle.borsh.proofs.Lengths.{no_length}
use Rattle.borsh.proofs.ser.object_length.Goals as goal

pub returns : goal.returns
returns g c =
    let t = g.T.BorshType.codec in
    let w = c.in_ok-serialize.ensures.ok in
    let ok : IfOk c.ok_or.result (IsLength (t.encoding c.args.value.now)) = search rules in
    record {
      ok = ok;
      err = no_length t.encoding_allocates (t.encoding c.args.value.now) w.bytes c.serialize.new.writer.len c.len.result c.from.result c.ok_or.result c.ok_or.ensures.value c.len.ensures (search rules) w.is (search rules);
    }
