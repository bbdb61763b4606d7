use Rattle.std.proofs.Common.{false}
use Rattle.borsh_codec.proofs.WriteOutcomes.{writes_exit, writes_exit_first, writes_then}
use Rattle.borsh_ser.proofs.lists.write_counted.Goals as goal

pub returns-in_err-write_count : goal.returns-in_err-write_count
returns-in_err-write_count g c = writes_exit_first g.met.W.Write.lawful _ _ _ c.from_residual.ensures.1 c.in_err-write_count.ensures

pub returns : goal.returns
returns g c = writes_then g.met.W.Write.lawful false c.in_ok-write_count.ensures c.in_ok-write_elements.ensures

pub returns-in_err-write_elements : goal.returns-in_err-write_elements
returns-in_err-write_elements g c = writes_exit _ c.from_residual-in_err-write_elements.ensures.1 (writes_then g.met.W.Write.lawful false c.in_ok-write_count.ensures c.in_err-write_elements.ensures)
