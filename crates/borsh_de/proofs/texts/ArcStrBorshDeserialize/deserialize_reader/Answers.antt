use Rattle.std.specs.Arc.{arc_str_bytes}
use Rattle.borsh_codec.proofs.DecodeViews.{decodes_as_made}
use Rattle.borsh_de.proofs.texts.ArcStrBorshDeserialize.deserialize_reader.Goals as goal

pub returns : goal.returns
returns g c = decodes_as_made arc_str_bytes c.in_ok-from_string.ensures.ok c.in_ok-read_text.ensures
