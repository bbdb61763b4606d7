use Rattle.std.proofs.Common.{sym, ◌∙◌}
use Rattle.borsh_codec.proofs.ReadWhole.{denied_more, denied_failed, reads_all}
use Rattle.borsh_codec.proofs.DecodeOutcomes.{decodes_reader_exit, decodes_reader_err, decodes_reader_ok}
use Rattle.borsh_de.proofs.deserialize.BorshDeserialize.try_from_reader.Goals as goal

pub returns-in_err-value : goal.returns-in_err-value
returns-in_err-value g c = decodes_reader_exit g.met.Self.BorshType.lawful _ c.from_residual.ensures.1 c.in_err-value.ensures

pub returns-in-Ok : goal.returns-in-Ok
returns-in-Ok g c = decodes_reader_err g.met.Self.BorshType.lawful c.in_ok-value.ensures (denied_more g.met.Self.BorshType.lawful c.in_ok-value.ensures.ok c.in-Ok.ensures.takes c.read_exact.auto.buf c.not_all_bytes_read.ensures)

pub returns-in-UnexpectedEof : goal.returns-in-UnexpectedEof
returns-in-UnexpectedEof g c = decodes_reader_ok g.met.Self.BorshType.lawful c.in_ok-value.ensures (reads_all c.in_ok-value.ensures.ok c.in-Err.ensures.tail (sym c.kind.ensures ∙ c.in-UnexpectedEof.is) c.in-Err.ensures.cause)

pub returns-in_default : goal.returns-in_default
returns-in_default g c =
    decodes_reader_err g.met.Self.BorshType.lawful c.in_ok-value.ensures
    (denied_failed c.in_ok-value.ensures.ok c.in-Err.ensures.tail c.in-Err.ensures.cause (λ e. c.in_default.not-UnexpectedEof (c.kind.ensures ∙ e)) c.not_all_bytes_read-in_default.ensures)
