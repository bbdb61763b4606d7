use Rattle.std.specs.Arc.{arc_slice_items}
use Rattle.borsh_codec.proofs.DecodeViews.{decodes_as_made}
use Rattle.borsh_de.proofs.lists.ArcSliceBorshDeserialize.deserialize_reader.Goals as goal

pub returns : goal.returns
returns g c = decodes_as_made arc_slice_items c.in_ok-from_vec.ensures c.in_ok-read_list.ensures
