use Rattle.std.proofs.lemmas.Result.{IfErr-weaker}
use Rattle.borsh_codec.specs.Shapes.{unsigned_encoding, signed_encoding, is_zero}
use Rattle.borsh_codec.proofs.Laws.Numbers.{length-number, length-signed}
use Rattle.borsh_codec.proofs.ReadParts.{denied_exact}
use Rattle.borsh_de.proofs.numbers.number_bytes.Goals as goal

pub returns : goal.returns
returns g c = record {
  ok = c.read_bytes.ensures.ok;
  unsigned_err = IfErr-weaker c.read_bytes.result _ _ (λ e r. denied_exact (unsigned_encoding g.row.N) g.row.N (is_zero g.row.N) (length-number g.row.N) r) c.read_bytes.ensures.err;
  signed_err = IfErr-weaker c.read_bytes.result _ _ (λ e r. denied_exact (signed_encoding g.row.N) g.row.N (is_zero g.row.N) (length-signed g.row.N) r) c.read_bytes.ensures.err;
}
