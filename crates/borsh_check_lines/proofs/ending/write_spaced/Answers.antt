use Rattle.std.proofs.Common.{rules, ◌≡◌, ◌<◌, ◌+◌, cond, ◌==◌, length, drop, get_or}
use Rattle.std.proofs.lemmas.Result.{err_from_is_err_and}
use Rattle.borsh.proofs.WriteLaws.{Writes-trans, Refused-after, Refused-before}
use Rattle.borsh_check_lines.specs.Runs.{spaced}
use Rattle.borsh_check_lines.proofs.LineSteps.{spaced-more, spaced-split}
use Rattle.borsh_check_lines.proofs.ending.write_spaced.Goals as goal

pub returns-in_err-write_all-clause-refused : goal.returns-in_err-write_all-clause-refused
returns-in_err-write_all-clause-refused g c =
    let p = err_from_is_err_and c.from_residual.result c.from_residual.ensures.1 in
    let text = c.args.text.now in
    let i = c.loop-byte.byte-index in
    let h : i < length text = search rules in
    let shown : c.space_for_feed.result ≡ cond (get_or text i 0 == 10) 32 (get_or text i 0) = search rules in
    let refused = Refused-before g.met.W.Write.lawful (spaced (drop (i + 1) text)) (Refused-after g.met.W.Write.lawful c.loop-byte.invariant (rw shown at c.in_err-write_all.ensures.refused)) in
    rw (p.1, p.2) (rw (spaced-split text i h) at refused)

pub loop-byte-preserved : goal.loop-byte-preserved
loop-byte-preserved g c =
    let text = c.args.text.now in
    let i = c.loop-byte.byte-index in
    let h : i < length text = search rules in
    let shown : c.space_for_feed.result ≡ cond (get_or text i 0 == 10) 32 (get_or text i 0) = search rules in
    rw (spaced-more text i h) (Writes-trans g.met.W.Write.lawful c.loop-byte.invariant (rw shown at c.in_ok-write_all.ensures.writes))
