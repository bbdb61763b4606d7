use Rattle.std.specs.Box.{boxed_slice_items}
use Rattle.borsh_codec.proofs.DecodeViews.{decodes_as_made}
use Rattle.borsh_de.proofs.lists.BoxedSliceBorshDeserialize.deserialize_reader.Goals as goal

pub returns : goal.returns
returns g c = decodes_as_made boxed_slice_items c.into_boxed_slice.ensures.items c.in_ok-read_list.ensures
