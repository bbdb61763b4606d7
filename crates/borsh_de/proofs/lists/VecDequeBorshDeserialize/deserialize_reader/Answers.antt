use Rattle.borsh_codec.proofs.DecodeViews.{decodes_as_made}
use Rattle.borsh_de.proofs.lists.VecDequeBorshDeserialize.deserialize_reader.Goals as goal

pub returns : goal.returns
returns g c = decodes_as_made (λ v. v.items) c.from_vec.ensures.items c.in_ok-read_list.ensures
