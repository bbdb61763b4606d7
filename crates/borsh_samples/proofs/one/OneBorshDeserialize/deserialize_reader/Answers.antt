use Rattle.std.proofs.Common.{refl}
use Rattle.borsh.proofs.DecodeOutcomes.{decodes_no_byte, decodes_tagged}
use Rattle.borsh_samples.specs.One.{one-lawful}
use Rattle.borsh_samples.proofs.one.OneBorshDeserialize.deserialize_reader.Goals as goal

pub returns-in_err-tag : goal.returns-in_err-tag
returns-in_err-tag g c = decodes_no_byte one-lawful refl refl _ c.from_residual.ensures.1 c.in_err-tag.ensures

pub returns : goal.returns
returns g c = decodes_tagged one-lawful refl refl c.in_ok-tag.ensures c.deserialize_variant.ensures
