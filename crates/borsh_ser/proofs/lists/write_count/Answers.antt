use Rattle.std.proofs.Common.{arith, refl, sym, ◌∙◌, ap, false}
use Rattle.borsh_codec.specs.Shapes.{unsigned_encoding}
use Rattle.borsh_codec.proofs.Laws.Numbers.{number_past}
use Rattle.borsh_codec.proofs.WriteSteps.{write_denied_none}
use Rattle.borsh_codec.proofs.WriteOutcomes.{writes_err, writes_exit, writes_is}
use Rattle.borsh_ser.proofs.lists.write_count.Goals as goal

pub returns-in_default : goal.returns-in_default
returns-in_default g c = writes_err refl (write_denied_none g.met.W.Write.lawful false _ (number_past 4 c.args.count (omega (arith, c.in_default.ensures))) c.from.ensures.0)

pub returns : goal.returns
returns g c = writes_is (sym c.bytes_of_u32.ensures ∙ ap (unsigned_encoding 4) c.in-Ok.ensures.1) c.in_ok-write_bytes.ensures

pub returns-in_err-write_bytes : goal.returns-in_err-write_bytes
returns-in_err-write_bytes g c = writes_exit _ c.from_residual.ensures.1 (writes_is (sym c.bytes_of_u32.ensures ∙ ap (unsigned_encoding 4) c.in-Ok.ensures.1) c.in_err-write_bytes.ensures)
