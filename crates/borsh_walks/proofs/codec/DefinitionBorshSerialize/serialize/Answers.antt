use Rattle.std.proofs.Common.{false}
use Rattle.borsh_codec.proofs.WriteOutcomes.{writes_exit_first, writes_then}
use Rattle.borsh_walks.proofs.codec.DefinitionBorshSerialize.serialize.Goals as goal

pub returns-in_err-write_bytes-in-Sequence : goal.returns-in_err-write_bytes-in-Sequence
returns-in_err-write_bytes-in-Sequence g c =
    rw c.in-Sequence.is (writes_exit_first g.met.W.Write.lawful _ _ _ c.from_residual.ensures.1 c.in_err-write_bytes-in-Sequence.ensures)

pub returns-in_ok-write_bytes-in-Sequence : goal.returns-in_ok-write_bytes-in-Sequence
returns-in_ok-write_bytes-in-Sequence g c =
    rw c.in-Sequence.is (writes_then g.met.W.Write.lawful false c.in_ok-write_bytes-in-Sequence.ensures c.write_three.ensures)

pub returns-in_err-write_bytes-in-Enum : goal.returns-in_err-write_bytes-in-Enum
returns-in_err-write_bytes-in-Enum g c =
    rw c.in-Enum.is (writes_exit_first g.met.W.Write.lawful _ _ _ c.from_residual-in_err-write_bytes-in-Enum.ensures.1 c.in_err-write_bytes-in-Enum.ensures)

pub returns-in_ok-write_bytes-in-Enum : goal.returns-in_ok-write_bytes-in-Enum
returns-in_ok-write_bytes-in-Enum g c =
    rw c.in-Enum.is (writes_then g.met.W.Write.lawful false c.in_ok-write_bytes-in-Enum.ensures c.write_two.ensures)
