use Rattle.borsh_codec.proofs.DecodeOutcomes.{decodes_pair_second, decodes_pair}
use Rattle.borsh_de.proofs.tuples.Tuple2BorshDeserialize.deserialize_reader.Goals as goal

pub returns-in_err-b : goal.returns-in_err-b
returns-in_err-b g c = decodes_pair_second _ g.met.A.BorshType.lawful c.in_ok-a.ensures c.from_residual-in_err-b.ensures.1 c.in_err-b.ensures

pub returns : goal.returns
returns g c = decodes_pair c.in_ok-a.ensures c.in_ok-b.ensures
