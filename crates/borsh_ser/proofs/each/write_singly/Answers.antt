use Rattle.std.proofs.Common.{refl}
use Rattle.borsh_codec.proofs.WriteSteps.{writes_nothing}
use Rattle.borsh_codec.proofs.WriteOutcomes.{writes_ok}
use Rattle.borsh_ser.proofs.Items.{items_none, items_more, items_exit, items_done}
use Rattle.borsh_ser.proofs.each.write_singly.Goals as goal

pub loop-item-init : goal.loop-item-init
loop-item-init g c = record {
  can = c.requires.ready;
  finite = c.requires.finite;
  items = items_none g.met.W.Write.lawful _ _;
}

pub loop-item-preserved : goal.loop-item-preserved
loop-item-preserved g c =
    let i = c.loop-item.invariant in
    let on = c.in-Some.ensures.goes.on i.finite in
    record {
      can = on.0;
      finite = on.1;
      items = items_more g.met.W.Write.lawful i.items c.in-Some.ensures.steps c.in_ok-serialize.ensures.ok;
    }

pub returns-in_err-serialize : goal.returns-in_err-serialize
returns-in_err-serialize g c = λ es y. items_exit g.met.W.Write.lawful _ es c.loop-item.invariant.items c.in-Some.ensures.steps c.in_err-serialize.ensures.err c.from_residual.ensures.1 y

pub returns : goal.returns
returns g c = λ es y. (
    let laws = g.met.W.Write.lawful in
    items_done laws es c.loop-item.invariant.items c.in_default.ensures.steps (writes_ok refl (writes_nothing laws _)) y)
