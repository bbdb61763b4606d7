use Rattle.std.proofs.Common.{refl}
use Rattle.borsh_codec.proofs.Laws.Types.{bool-lawful}
use Rattle.borsh_codec.proofs.DecodeOutcomes.{decodes_no_byte}
use Rattle.borsh_de.proofs.sums.BoolBorshDeserialize.deserialize_reader.Goals as goal

pub returns-in_err-tag : goal.returns-in_err-tag
returns-in_err-tag g c = decodes_no_byte bool-lawful refl refl _ c.from_residual.ensures.1 c.in_err-tag.ensures
