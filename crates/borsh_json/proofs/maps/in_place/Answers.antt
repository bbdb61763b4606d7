use Rattle.std.proofs.Common.{◌∙◌, sym, ap, is_ge}
use Rattle.borsh_json.proofs.MapLaws.{rising_start, rising_more, rising_all}
use Rattle.borsh_json.proofs.maps.in_place.Goals as goal

pub loop-count-init : goal.loop-count-init
loop-count-init c ms h = rising_start ms c.in_ok-members.members h

pub loop-count-preserved : goal.loop-count-preserved
loop-count-preserved c ms h =
    rising_more ms c.loop-count.members c.next.new.self c.loop-count.earlier c.loop-count.count c.in-Some.key.now c.in-Some.field-0-1 c.as_bytes.result c.in-Some.ensures.value c.as_bytes.ensures.value (ap is_ge (sym c.cmp.ensures) ∙ sym c.is_ge.ensures ∙ c.if-is_ge.false) (c.loop-count.invariant ms h)

pub returns-in_default : goal.returns-in_default
returns-in_default c j b =
    let o = c.in_ok-entries.ensures j b in
    let m = c.in_ok-members.ensures j b in
    rising_all j m.0 o.0 c.loop-count.members c.in_ok-entries.entries c.loop-count.earlier c.loop-count.count o.1 o.2 m.1 c.in_default.ensures.value (c.loop-count.invariant m.0 m.2)
