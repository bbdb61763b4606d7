use Rattle.borsh_codec.proofs.WriteOutcomes.{writes_exit_first, writes_then}
use Rattle.borsh_ser.proofs.tuples.Tuple14BorshSerialize.serialize.Goals as goal

pub returns-in_err-serialize : goal.returns-in_err-serialize
returns-in_err-serialize g c = writes_exit_first g.met.W.Write.lawful _ _ _ c.from_residual.ensures.1 c.in_err-serialize.ensures

pub returns-in_err-serialize-2 : goal.returns-in_err-serialize-2
returns-in_err-serialize-2 g c = writes_then g.met.W.Write.lawful g.A.BorshType.codec.encoding_allocates c.in_ok-serialize.ensures (writes_exit_first g.met.W.Write.lawful _ _ _ c.from_residual-in_err-serialize-2.ensures.1 c.in_err-serialize-2.ensures)

pub returns : goal.returns
returns g c = writes_then g.met.W.Write.lawful g.A.BorshType.codec.encoding_allocates c.in_ok-serialize.ensures (writes_then g.met.W.Write.lawful g.B.BorshType.codec.encoding_allocates c.in_ok-serialize-2.ensures (c.write_twelve.ensures))
