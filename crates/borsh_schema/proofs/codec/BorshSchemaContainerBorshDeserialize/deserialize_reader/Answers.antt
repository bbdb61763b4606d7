use Rattle.std.proofs.Common.{refl}
use Rattle.borsh_codec.proofs.DecodeOutcomes.{decodes_exit_contramap, decodes_made}
use Rattle.borsh_schema.specs.Codecs.{container_pair}
use Rattle.borsh_schema.proofs.codec.BorshSchemaContainerBorshDeserialize.deserialize_reader.Goals as goal

pub returns-in_err-declaration : goal.returns-in_err-declaration
returns-in_err-declaration g c = decodes_exit_contramap container_pair _ c.from_residual.ensures.1 c.in_err-declaration.ensures

pub returns : goal.returns
returns g c = decodes_made container_pair refl c.in_ok-declaration.ensures
