use Rattle.std.proofs.lemmas.Result.{err_from_is_err_and}
use Rattle.borsh.proofs.WithSchema.{not_written_container, not_written_vector, encodes_ok, encodes_err}
use Rattle.borsh.proofs.schema_helpers.try_to_vec_with_schema.Goals as goal

pub returns-in_err-container : goal.returns-in_err-container
returns-in_err-container g c =
    let p = err_from_is_err_and c.from_residual.result c.from_residual.ensures.1 in
    rw (p.1, p.2) (encodes_err _ (not_written_container c.in_err-container.ensures.err))

pub returns-in_err-out : goal.returns-in_err-out
returns-in_err-out g c =
    let p = err_from_is_err_and c.from_residual-in_err-out.result c.from_residual-in_err-out.ensures.1 in
    rw (p.1, p.2) (encodes_err _ (not_written_vector c.in_ok-container.container c.in_ok-container.ensures.ok c.in_ok-container.ensures.ascending c.in_err-out.ensures.err))

pub returns : goal.returns
returns g c =
    let w = c.in_ok-serialize.ensures.ok in
    encodes_ok (record { value = w.bytes; is = w.is; sent = record { own = c.in_ok-container.container; is = c.in_ok-container.ensures.ok; front = c.in_ok-out.out.items; encoded = c.in_ok-out.ensures.ok; whole = w.writes.wrote } })
