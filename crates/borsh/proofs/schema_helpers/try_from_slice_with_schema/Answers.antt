use Rattle.std.proofs.lemmas.Result.{err_from_is_err_and}
use Rattle.borsh.proofs.WithSchema.{pair_read, not_read_pair, not_read_own, not_read_other, read_behind, decodes_ok, decodes_err}
use Rattle.borsh.proofs.schema_helpers.try_from_slice_with_schema.Goals as goal

pub returns-in_err-sent : goal.returns-in_err-sent
returns-in_err-sent g c =
    let p = err_from_is_err_and c.from_residual.result c.from_residual.ensures.1 in
    rw (p.1, p.2) (decodes_err _ (not_read_pair c.in_err-sent.ensures.err))

pub returns-in_err-is_own : goal.returns-in_err-is_own
returns-in_err-is_own g c =
    let p = err_from_is_err_and c.from_residual-in_err-is_own.result c.from_residual-in_err-is_own.ensures.1 in
    rw (p.1, p.2) (decodes_err _ (not_read_own (c.in_ok-sent.sent, c.in_ok-sent.ensures.ok) c.in_err-is_own.ensures.err))

pub returns-then-branch : goal.returns-then-branch
returns-then-branch g c = decodes_ok g.met.T.BorshType.lawful c.in_ok-sent.ensures.made.1 (read_behind (pair_read c.in_ok-sent.ensures.ok) c.in_ok-is_own.ensures.ok c.if-branch.true)

pub returns-else-branch : goal.returns-else-branch
returns-else-branch g c = decodes_err _ (not_read_other (pair_read c.in_ok-sent.ensures.ok) c.in_ok-is_own.ensures.ok c.if-branch.false c.other_schema.ensures)
