use Rattle.std.proofs.Common.{◌<◌, arith}
use Rattle.std.proofs.lemmas.Result.{MatchResult-weaker}
use Rattle.borsh_arrays.proofs.Made.{IsMade-first, IsGivenUp-first}
use Rattle.borsh_arrays.proofs.array_from.Goals as goal

pub returns-in-Some-clause-ok : goal.returns-in-Some-clause-ok
returns-in-Some-clause-ok g c =
    let some : 0 < g.row.N = omega (arith, c.if-this-eq0.false) in
    MatchResult-weaker c.fill.result c.fill.ensures (λ xs others. IsMade-first some c.in-Some.ensures others) (λ e others. tt)

pub returns-in-Some-clause-err : goal.returns-in-Some-clause-err
returns-in-Some-clause-err g c =
    let some : 0 < g.row.N = omega (arith, c.if-this-eq0.false) in
    MatchResult-weaker c.fill.result c.fill.ensures (λ xs others. tt) (λ e others. IsGivenUp-first c.in-Some.first some c.in-Some.ensures others)
