use Rattle.std.proofs.Common.{rules, ◌≡◌, ◌<◌, ◌++◌, length, take}
use Rattle.borsh_io.proofs.WriteLaws.{Writes-trans, Writes-interrupted, Refused-full, Refused-failed, moves_front}
use Rattle.borsh_io.proofs.write.Write.write_all.Goals as goal

pub returns-in-Ok-eq0 : goal.returns-in-Ok-eq0
returns-in-Ok-eq0 g c =
    let old = c.loop-rest.invariant in
    let left : 0 < length c.loop-rest.rest.now = search rules in
    let zero : c.in-Ok-eq0.field-0 ≡ 0 = search rules in
    record {
      writes = tt;
      retried = λ e. cc (e, c.short_write.ensures);
      refused = Refused-full g.met.Self.Write.lawful _ c.in-Ok-eq0.field-0 old.writes old.split left zero c.in-Ok-eq0.ensures.writes
          (c.in-Ok-eq0.ensures.some zero left) c.short_write.ensures;
    }

pub loop-rest-preserved-in-Ok : goal.loop-rest-preserved-in-Ok
loop-rest-preserved-in-Ok g c =
    let old = c.loop-rest.invariant in
    let rest = c.loop-rest.rest.now in
    let n = c.in-Ok.n in
    record {
      done = old.done ++ take n rest;
      split = moves_front _ old.done rest n old.split;
      writes = Writes-trans g.met.Self.Write.lawful old.writes c.in-Ok.ensures.writes;
    }

pub loop-rest-preserved : goal.loop-rest-preserved
loop-rest-preserved g c =
    let old = c.loop-rest.invariant in
    record {
      done = old.done;
      split = old.split;
      writes = Writes-interrupted g.met.Self.Write.lawful old.writes (c.in-Err.ensures.interrupted c.in_ok-pass_over-in-Err.ensures.ok);
    }

pub returns-in_err-pass_over-in-Err : goal.returns-in_err-pass_over-in-Err
returns-in_err-pass_over-in-Err g c =
    let old = c.loop-rest.invariant in
    let left : 0 < length c.loop-rest.rest.now = search rules in
    search (rules, Refused-failed g.met.Self.Write.lawful _ old.writes old.split left (c.in-Err.ensures.failed c.in_err-pass_over-in-Err.ensures.err.1))
