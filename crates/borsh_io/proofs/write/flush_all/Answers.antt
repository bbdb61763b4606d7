use Rattle.std.proofs.Common.{rules}
use Rattle.borsh_io.proofs.WriteLaws.{Writes-trans, Writes-interrupted, GaveUp-after}
use Rattle.borsh_io.proofs.write.flush_all.Goals as goal

pub returns-in-Ok : goal.returns-in-Ok
returns-in-Ok g c = record { writes = Writes-trans g.met.W.Write.lawful c.loop-e.invariant c.in-Ok.ensures.writes; retried = tt; failed = tt }

pub loop-e-preserved : goal.loop-e-preserved
loop-e-preserved g c = Writes-interrupted g.met.W.Write.lawful c.loop-e.invariant (c.in-Err.ensures.interrupted c.in_ok-pass_over-in-Err.ensures.ok)

pub returns-in_err-pass_over-in-Err : goal.returns-in_err-pass_over-in-Err
returns-in_err-pass_over-in-Err g c =
    search (rules, GaveUp-after g.met.W.Write.lawful c.loop-e.invariant (c.in-Err.ensures.failed c.in_err-pass_over-in-Err.ensures.err.1))
