use Rattle.std.proofs.Common.{◌-◌, length, arith}
use borrow.Rule.Slice.PartMut.{put_mid, same_len_mid}
use Rattle.borsh_codec.proofs.PutSteps.{put_fits}
use Rattle.borsh_ser.proofs.Items.{items_none, items_put, items_kept, items_written, items_held_exit, items_more, items_exit, items_done}
use Rattle.borsh_ser.proofs.rooms.write_each.Goals as goal
use Rattle.borsh_ser.proofs.rooms.write_each.Goals.{in-Some-put_again, in-None-put_again+in_ok-serialize-in-None-put_again}

pub loop-item-init : goal.loop-item-init
loop-item-init g c = record {
  within = omega arith;
  can = c.requires.ready;
  finite = c.requires.finite;
  items = items_none g.met.W.Write.lawful _ _;
}

pub loop-item-preserved-in-Some-put_shared : goal.loop-item-preserved-in-Some-put_shared
loop-item-preserved-in-Some-put_shared g c =
    let at = c.loop-item in
    let i = at.invariant in
    let on = c.in-Some.ensures.goes.on i.finite in
    let part = c.put_shared.new.room in
    let long = same_len_mid at.filled _ at.room part c.put_shared.ensures.same in
    let w = c.in-Some-put_shared in
    record {
      within = omega (arith, long, put_fits at.filled w.n (length at.room - at.filled) at.room part i.within w.ensures.put.0);
      can = on.0;
      finite = on.1;
      items = items_put g.met.W.Write.lawful at.filled w.n _ at.room part i.within i.items c.in-Some.ensures.steps w.ensures;
    }

pub loop-item-preserved : goal.loop-item-preserved
loop-item-preserved g c =
    let at = c.loop-item in
    let laws = g.met.W.Write.lawful in
    let i = at.invariant in
    let on = c.in-Some.ensures.goes.on i.finite in
    let room = put_mid at.filled (length at.room - at.filled) at.room c.put_shared.new.room in
    let empty = items_written laws (items_kept laws at.filled _ at.room c.put_shared.new.room i.within i.items) c.in_ok-write_held-in-None.ensures.ok in
    let part = c.put_again.new.room in
    elim c.match-put_again.branch [
      | in-Some-put_again w ↦ rw (w.filled-is, w.writer-is) (record {
        within = put_fits 0 w.in-Some-put_again.n (length room - 0) room part (omega arith) w.in-Some-put_again.ensures.put.0;
        can = on.0;
        finite = on.1;
        items = items_put laws 0 w.in-Some-put_again.n _ room part (omega arith) empty c.in-Some.ensures.steps w.in-Some-put_again.ensures;
      })
      | in-None-put_again+in_ok-serialize-in-None-put_again w ↦ rw (w.filled-is, w.writer-is) (record {
        within = omega arith;
        can = on.0;
        finite = on.1;
        items = items_more laws empty c.in-Some.ensures.steps w.in_ok-serialize-in-None-put_again.ensures.ok;
      })
    ]

pub returns-in_err-write_held-in-None : goal.returns-in_err-write_held-in-None
returns-in_err-write_held-in-None g c = λ es y. (
    let at = c.loop-item in
    let laws = g.met.W.Write.lawful in
    let fits = at.invariant.within in
    items_held_exit laws _ es (items_kept laws at.filled _ at.room c.put_shared.new.room fits at.invariant.items) c.in_err-write_held-in-None.ensures c.from_residual.ensures.1 y)

pub returns-in_err-serialize-in-None-put_again : goal.returns-in_err-serialize-in-None-put_again
returns-in_err-serialize-in-None-put_again g c = λ es y. (
    let at = c.loop-item in
    let laws = g.met.W.Write.lawful in
    let fits = at.invariant.within in
    let i = items_written laws (items_kept laws at.filled _ at.room c.put_shared.new.room fits at.invariant.items) c.in_ok-write_held-in-None.ensures.ok in
    items_exit laws _ es i c.in-Some.ensures.steps c.in_err-serialize-in-None-put_again.ensures.err c.from_residual-in_err-serialize-in-None-put_again.ensures.1 y)

pub returns : goal.returns
returns g c = λ es y. items_done g.met.W.Write.lawful es c.loop-item.invariant.items c.in_default.ensures.steps c.write_held-2.ensures y
