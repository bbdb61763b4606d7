use Rattle.std.proofs.Common.{refl}
use Rattle.std.specs.Cow.{cow_slice_items}
use Rattle.borsh_codec.proofs.DecodeViews.{decodes_as_made}
use Rattle.borsh_de.proofs.lists.CowSliceBorshDeserialize.deserialize_reader.Goals as goal

pub returns : goal.returns
returns g c = decodes_as_made cow_slice_items refl c.in_ok-read_list.ensures
