use Rattle.borsh_codec.proofs.DecodeOutcomes.{decodes_exit_contramap}
use Rattle.borsh_de.proofs.tuples.Tuple17BorshDeserialize.deserialize_reader.Goals as goal

pub returns-in_err-a : goal.returns-in_err-a
returns-in_err-a g c = decodes_exit_contramap (λ t. (t.0, t.1.0, t.1.1.0, t.1.1.1)) _ c.from_residual.ensures.1 c.in_err-a.ensures
