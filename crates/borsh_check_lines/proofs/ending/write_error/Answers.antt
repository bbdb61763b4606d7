use Rattle.std.proofs.Common.{rules, ◌≡◌}
use Rattle.std.proofs.lemmas.Result.{err_from_is_err_and}
use Rattle.borsh.specs.Errors.{error_kind, error_text, display_text}
use Rattle.borsh.proofs.WriteLaws.{Writes-trans, Refused-after, Refused-before}
use Rattle.borsh_check_lines.proofs.ending.write_error.Goals as goal

pub returns-in_err-write_all-clause-refused : goal.returns-in_err-write_all-clause-refused
returns-in_err-write_all-clause-refused g c =
    let p = err_from_is_err_and c.from_residual.result c.from_residual.ensures.1 in
    rw (p.1, p.2) (Refused-before g.met.W.Write.lawful _ c.in_err-write_all.ensures.refused)

pub returns-in_err-write_spaced-clause-refused : goal.returns-in_err-write_spaced-clause-refused
returns-in_err-write_spaced-clause-refused g c =
    let p = err_from_is_err_and c.from_residual-in_err-write_spaced.result c.from_residual-in_err-write_spaced.ensures.1 in
    let text : c.as_bytes.result.now ≡ display_text (error_kind c.args.error.now) (error_text c.args.error.now) = search rules in
    rw (p.1, p.2) (Refused-after g.met.W.Write.lawful c.in_ok-write_all.ensures.writes (Refused-before g.met.W.Write.lawful _ (rw text at c.in_err-write_spaced.ensures.refused)))

pub returns-in_err-write_all-2-clause-refused : goal.returns-in_err-write_all-2-clause-refused
returns-in_err-write_all-2-clause-refused g c =
    let p = err_from_is_err_and c.from_residual-in_err-write_all-2.result c.from_residual-in_err-write_all-2.ensures.1 in
    let text : c.as_bytes.result.now ≡ display_text (error_kind c.args.error.now) (error_text c.args.error.now) = search rules in
    rw (p.1, p.2) (Refused-after g.met.W.Write.lawful c.in_ok-write_all.ensures.writes (Refused-after g.met.W.Write.lawful (rw text at c.in_ok-write_spaced.ensures.writes) c.in_err-write_all-2.ensures.refused))

pub returns-clause-writes : goal.returns-clause-writes
returns-clause-writes g c =
    let text : c.as_bytes.result.now ≡ display_text (error_kind c.args.error.now) (error_text c.args.error.now) = search rules in
    Writes-trans g.met.W.Write.lawful c.in_ok-write_all.ensures.writes (Writes-trans g.met.W.Write.lawful (rw text at c.in_ok-write_spaced.ensures.writes) c.in_ok-write_all-2.ensures.writes)
