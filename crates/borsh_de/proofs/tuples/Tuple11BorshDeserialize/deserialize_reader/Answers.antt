use Rattle.borsh_codec.proofs.DecodeOutcomes.{decodes_exit_contramap}
use Rattle.borsh_de.proofs.tuples.Tuple11BorshDeserialize.deserialize_reader.Goals as goal

pub returns-in_err-a : goal.returns-in_err-a
returns-in_err-a g c = decodes_exit_contramap (λ t. (t.0, t.1, t.2, (t.3, t.4, t.5, t.6, t.7, t.8, t.9, t.10))) _ c.from_residual.ensures.1 c.in_err-a.ensures
