use Rattle.std.proofs.Common.{rules, ◌<◌, length, take, subst, sym, arith}
use Rattle.borsh_io.specs.Stream.{Consumed}
use Rattle.borsh_io.proofs.ReadLaws.{Takes-trans, take-filled, fewer_taken}
use Rattle.std.proofs.lemmas.List.{length-take-le}
use Rattle.borsh_io.proofs.read.Read.read_exact.Goals as goal

pub loop-at-preserved-in-Ok : goal.loop-at-preserved-in-Ok
loop-at-preserved-in-Ok g c =
    let old = c.loop-at.invariant in
    record {
      len = search rules;
      within = search rules;
      takes = subst (Consumed _ _) (sym (take-filled c.loop-at.at _ c.in-Ok.n c.loop-at.buf c.read.new.buf old.within c.in-Ok.ensures.bound)) (Takes-trans old.takes c.in-Ok.ensures.takes);
    }

pub returns-in_err-pass_over-in-Err : goal.returns-in_err-pass_over-in-Err
returns-in_err-pass_over-in-Err g c =
    let old = c.loop-at.invariant in
    let short : length (take c.loop-at.at c.loop-at.buf) < length c.loop-at.buf = omega (arith, length-take-le c.loop-at.at c.loop-at.buf old.within) in
    search (rules, fewer_taken _ old.takes (c.in-Err.ensures.failed c.in_err-pass_over-in-Err.ensures.err.1) short)
