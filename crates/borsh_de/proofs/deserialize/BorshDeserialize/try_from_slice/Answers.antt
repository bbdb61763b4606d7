use Rattle.borsh_codec.proofs.ReadWhole.{whole_denied}
use Rattle.borsh_codec.proofs.DecodeOutcomes.{decodes_all_exit}
use Rattle.borsh_de.proofs.deserialize.BorshDeserialize.try_from_slice.Goals as goal

pub returns-in_err-value : goal.returns-in_err-value
returns-in_err-value g c = decodes_all_exit g.met.Self.BorshType.lawful _ c.from_residual.ensures.1 c.in_err-value.ensures (whole_denied c.args.v.now c.deserialize_reader.new.reader.now c.in_err-value.ensures.err)
