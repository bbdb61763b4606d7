use Rattle.std.proofs.Common.{refl}
use Rattle.borsh_codec.specs.Types.Sums.{result_view}
use Rattle.borsh_codec.proofs.Laws.Types.{result_of-lawful}
use Rattle.borsh_codec.proofs.DecodeOutcomes.{decodes_no_byte}
use Rattle.borsh_codec.proofs.DecodeSums.{decodes_exit_first, decodes_exit_second, decodes_first, decodes_second}
use Rattle.borsh_de.proofs.sums.ResultResultBorshDeserialize.deserialize_reader.Goals as goal

pub returns-in_err-tag : goal.returns-in_err-tag
returns-in_err-tag g c = decodes_no_byte (result_of-lawful g.met.T.BorshType.lawful g.met.E.BorshType.lawful) refl refl _ c.from_residual.ensures.1 c.in_err-tag.ensures

pub returns-in_err-deserialize_reader-in-0 : goal.returns-in_err-deserialize_reader-in-0
returns-in_err-deserialize_reader-in-0 g c = decodes_exit_first result_view g.met.E.BorshType.lawful g.met.T.BorshType.lawful _ c.in-0.is c.in_ok-tag.ensures c.from_residual-in_err-deserialize_reader-in-0.ensures.1 c.in_err-deserialize_reader-in-0.ensures

pub returns-in_ok-deserialize_reader-in-0 : goal.returns-in_ok-deserialize_reader-in-0
returns-in_ok-deserialize_reader-in-0 g c = decodes_first result_view g.T.BorshType.codec refl c.in-0.is c.in_ok-tag.ensures c.in_ok-deserialize_reader-in-0.ensures

pub returns-in_err-deserialize_reader-in-1 : goal.returns-in_err-deserialize_reader-in-1
returns-in_err-deserialize_reader-in-1 g c = decodes_exit_second result_view g.met.E.BorshType.lawful g.met.T.BorshType.lawful _ c.in-1.is c.in_ok-tag.ensures c.from_residual-in_err-deserialize_reader-in-1.ensures.1 c.in_err-deserialize_reader-in-1.ensures

pub returns-in_ok-deserialize_reader-in-1 : goal.returns-in_ok-deserialize_reader-in-1
returns-in_ok-deserialize_reader-in-1 g c = decodes_second result_view g.E.BorshType.codec refl c.in-1.is c.in_ok-tag.ensures c.in_ok-deserialize_reader-in-1.ensures
