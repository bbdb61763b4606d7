use Rattle.borsh_json.proofs.FoundLaws.{got_at}
use Rattle.borsh_compare.proofs.Found.{variant_step}
use Rattle.borsh_compare.proofs.alike.variant_alike.Goals as goal

pub returns : goal.returns
returns c = λ e.
    let u = c.in-Some-Some.old in
    let v = c.in-Some-Some.new in
    let s = got_at c.args.variants.now.items c.deref.result.now c.args.index c.get.result u c.deref.ensures.value c.get.ensures.lookup.3 c.in-Some-Some.is-0 in
    let t = got_at c.args.others.now.items c.deref-2.result.now c.args.other c.get-2.result v c.deref-2.ensures.value c.get-2.ensures.lookup.3 c.in-Some-Some.is-1 in
    variant_step c.args.both.old.now c.args.both.new.now c.args.pairs.now.list.items c.args.at.old c.args.at.new c.args.index c.args.other c.args.variants.now.items c.args.others.now.items u.now v.now s t (c.is_same_variant.ensures.tag c.if-not-is_same_variant.false) (c.is_same_variant.ensures.name c.if-not-is_same_variant.false) (c.part_paired.ensures e)
