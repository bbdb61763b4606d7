use Rattle.borsh_codec.proofs.DecodeViews.{decodes_as}
use Rattle.borsh_de.proofs.texts.StringBorshDeserialize.deserialize_reader.Goals as goal

pub returns : goal.returns
returns g c = decodes_as c.read_text.ensures
