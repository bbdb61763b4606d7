use Rattle.std.proofs.Common.{refl, rules}
use Rattle.borsh_codec.proofs.DecodeOutcomes.{decodes_exit, decodes_err, decodes_ok}
use Rattle.borsh_codec.proofs.ReadBytes.{reads_byte_row, denied_byte_row}
use Rattle.borsh_de.proofs.raw_bytes.read_octets.Goals as goal

pub returns-in_err-bytes : goal.returns-in_err-bytes
returns-in_err-bytes g c = decodes_exit _ c.from_residual.ensures.1 (decodes_err refl (denied_byte_row c.in_err-bytes.ensures.err))

pub returns : goal.returns
returns g c = decodes_ok refl (reads_byte_row (search rules) (search rules) c.in_ok-bytes.ensures.ok)
