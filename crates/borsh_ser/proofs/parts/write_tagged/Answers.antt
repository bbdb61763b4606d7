use Rattle.std.proofs.Common.{false}
use Rattle.borsh_codec.proofs.WriteOutcomes.{writes_exit_first, writes_then}
use Rattle.borsh_ser.proofs.parts.write_tagged.Goals as goal

pub returns-in_err-write_bytes : goal.returns-in_err-write_bytes
returns-in_err-write_bytes g c = writes_exit_first g.met.W.Write.lawful _ _ _ c.from_residual.ensures.1 c.in_err-write_bytes.ensures

pub returns : goal.returns
returns g c = writes_then g.met.W.Write.lawful false c.in_ok-write_bytes.ensures c.serialize.ensures
