use Rattle.std.specs.Box.{boxed_str_bytes}
use Rattle.borsh_codec.proofs.DecodeViews.{decodes_as_made}
use Rattle.borsh_de.proofs.texts.BoxedStrBorshDeserialize.deserialize_reader.Goals as goal

pub returns : goal.returns
returns g c = decodes_as_made boxed_str_bytes c.into_boxed_str.ensures.bytes c.in_ok-read_text.ensures
