use Rattle.std.proofs.Common.{◌+◌, ◌∙◌, take, ap, sym, subst, arith, refl, Some}
use Rattle.std.specs.Prelude.{slice_get}
use Rattle.borsh_walks.specs.Container.{references}
use Rattle.borsh_walks.specs.Definitions.{shape_of}
use Rattle.borsh_walks.proofs.Names.{next_below}
use Rattle.borsh_walks.proofs.Spots.{take_more, take_whole}
use Rattle.borsh_plan.specs.Names.{AreParts}
use Rattle.borsh_plan.proofs.NameLaws.{grows_on, grows_same, parts_more}
use Rattle.borsh_plan.proofs.names.parts_of.Goals as goal

pub loop-part-init : goal.loop-part-init
loop-part-init c = record {
  index = c.requires;
  parts = (let e = c.new-parts.ensures.items in subst (λ l. AreParts c.args.names.now.items l (take 0 (references (shape_of c.args.definition.now)))) (sym e) refl);
  within = omega arith;
  grown = grows_same _ c.args.names.now.items;
}

pub loop-part-preserved : goal.loop-part-preserved
loop-part-preserved c =
    let refs = references (shape_of c.args.definition.now) in
    let n = c.loop-part.next in
    let i = c.loop-part.invariant in
    let g = c.in_ok-place.ensures.grown in
    let there = sym c.in-Some.ensures.part in
    let t = take_more refs n there in
    record {
      index = c.in_ok-place.ensures.index;
      parts = subst (λ l. AreParts c.place_of.new.names.items l (take (n + 1) refs)) (sym c.in_ok-push.ensures.items) (parts_more c.loop-part.parts.items (take n refs) (take (n + 1) refs) c.in_ok-place.place c.in-Some.part.now g i.parts c.in_ok-place.ensures.place t);
      within = (let h = next_below refs n c.in-Some.part.now there in omega (arith, h));
      grown = grows_on (λ k a. (a.1, ap (λ j. slice_get refs j) a.2 ∙ there ∙ ap (λ x. Some x) (sym a.0))) i.grown g;
    }

pub returns-clause-parts : goal.returns-clause-parts
returns-clause-parts c =
    let refs = references (shape_of c.args.definition.now) in
    subst (λ l. AreParts c.loop-part.names.items c.loop-part.parts.items l) (take_whole refs c.loop-part.next (sym c.in_default.ensures.part)) c.loop-part.invariant.parts

pub returns-clause-grown : goal.returns-clause-grown
returns-clause-grown c =
    let g = c.loop-part.invariant.grown in
    let w = c.loop-part.invariant.within in
    record { kept = g.kept; added = g.added; long = g.long; few = (let f = g.few in omega (arith, f, w)) }
