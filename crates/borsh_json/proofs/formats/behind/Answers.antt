use Rattle.std.proofs.Common.{List, ℕ, [], get_or, refl, arith, rules, Bor}
use Rattle.borsh_json.proofs.FoundLaws.{joined_step, joined_not, stripped}
use Rattle.borsh_json.proofs.formats.behind.Goals as goal

pub returns-in_err-rest : goal.returns-in_err-rest
returns-in_err-rest c =
    let l = c.loop-piece in
    let ps = c.args.pieces.now in
    let d : Bor (List ℕ) = record { ref_ptr = (0, 0); now = [] } in
    rw c.from_residual.ensures (joined_not c.args.name.now l.rest.now ps l.piece-index (get_or ps l.piece-index d) d (omega arith) refl l.invariant.0 c.in_err-rest.ensures.cases)

pub loop-piece-preserved : goal.loop-piece-preserved
loop-piece-preserved c =
    let l = c.loop-piece in
    let ps = c.args.pieces.now in
    let d : Bor (List ℕ) = record { ref_ptr = (0, 0); now = [] } in
    let p = get_or ps l.piece-index d in
    (joined_step c.args.name.now l.rest.now c.in_ok-rest.rest.now ps l.piece-index p d (omega arith) refl l.invariant.0 (stripped p.now l.rest.now c.in_ok-rest.rest.now c.in_ok-rest.ensures.cases), search rules)
