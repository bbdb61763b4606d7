use Rattle.borsh_codec.proofs.DecodeViews.{decodes_as_made}
use Rattle.borsh_de.proofs.kit_types.BytesBorshDeserialize.deserialize_reader.Goals as goal

pub returns : goal.returns
returns g c = decodes_as_made (λ b. b) c.in_ok-from_vec.ensures.ok c.in_ok-read_list.ensures
