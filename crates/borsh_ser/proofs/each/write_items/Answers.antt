use Rattle.std.proofs.Common.{false}
use Rattle.borsh_codec.proofs.WriteOutcomes.{writes_exit_first, writes_then}
use Rattle.borsh_ser.proofs.each.write_items.Goals as goal

pub returns-in_err-write_count : goal.returns-in_err-write_count
returns-in_err-write_count g c = λ es y. writes_exit_first g.met.W.Write.lawful _ _ _ c.from_residual.ensures.1 c.in_err-write_count.ensures

pub returns : goal.returns
returns g c = λ es y. writes_then g.met.W.Write.lawful false c.in_ok-write_count.ensures (c.write_each-2.ensures es y)

pub returns-then-count-lt-MANY : goal.returns-then-count-lt-MANY
returns-then-count-lt-MANY g c = λ es y. writes_then g.met.W.Write.lawful false c.in_ok-write_count.ensures (c.write_each.ensures es y)

pub returns-then-count-lt-SHARED : goal.returns-then-count-lt-SHARED
returns-then-count-lt-SHARED g c = λ es y. writes_then g.met.W.Write.lawful false c.in_ok-write_count.ensures (c.write_singly.ensures es y)
