use Rattle.std.proofs.Common.{refl}
use Rattle.borsh_codec.proofs.DecodeOutcomes.{decodes_no_byte, decodes_tagged}
use Rattle.borsh_walks.specs.Codecs.{fields-lawful}
use Rattle.borsh_walks.proofs.codec.FieldsBorshDeserialize.deserialize_reader.Goals as goal

pub returns-in_err-tag : goal.returns-in_err-tag
returns-in_err-tag g c = decodes_no_byte fields-lawful refl refl _ c.from_residual.ensures.1 c.in_err-tag.ensures

pub returns : goal.returns
returns g c = decodes_tagged fields-lawful refl refl c.in_ok-tag.ensures c.deserialize_variant.ensures
