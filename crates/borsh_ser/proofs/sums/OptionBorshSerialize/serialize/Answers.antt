use Rattle.std.proofs.Common.{false, ◌||◌}
use Rattle.borsh_codec.proofs.Laws.Lists.{or_left}
use Rattle.borsh_codec.proofs.WriteOutcomes.{writes_exit_first, writes_own, writes_then}
use Rattle.borsh_ser.proofs.sums.OptionBorshSerialize.serialize.Goals as goal

pub returns-in_err-write_bytes-in-Some : goal.returns-in_err-write_bytes-in-Some
returns-in_err-write_bytes-in-Some g c =
    let t = g.T.BorshType.codec in
    rw c.in-Some.is (writes_exit_first g.met.W.Write.lawful (t.encoding_allocates || false) (t.encoding c.in-Some.value) _ c.from_residual.ensures.1 c.in_err-write_bytes-in-Some.ensures)

pub returns-in_ok-write_bytes-in-Some : goal.returns-in_ok-write_bytes-in-Some
returns-in_ok-write_bytes-in-Some g c =
    let t = g.T.BorshType.codec in
    rw c.in-Some.is (writes_own (or_left t.encoding_allocates _) (writes_then g.met.W.Write.lawful false c.in_ok-write_bytes-in-Some.ensures c.serialize.ensures))
