use Rattle.std.proofs.lemmas.Result.{err_from_is_err_and}
use Rattle.borsh_codec.proofs.DecodeOutcomes.{decodes_stored_memory}
use Rattle.borsh_de.proofs.pointers.ArcBorshDeserialize.deserialize_reader.Goals as goal

pub returns-in_err-new : goal.returns-in_err-new
returns-in_err-new g c =
    let p = err_from_is_err_and c.from_residual-in_err-new.result c.from_residual-in_err-new.ensures.1 in
    decodes_stored_memory (λ b. b.value) _ p.1 p.2.0 c.in_ok-value.ensures
