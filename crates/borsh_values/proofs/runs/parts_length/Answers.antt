use Rattle.std.proofs.Common.{◌+◌, ◌∷◌, subst, sym, arith, []}
use Rattle.std.proofs.lemmas.Option.{slice_get_within}
use Rattle.borsh_walks.proofs.Spots.{take_more, take_whole}
use Rattle.borsh_plan.specs.Names.{name_at, parts_in, shape_at}
use Rattle.borsh_plan.specs.Plan.{definitions_of, names_of}
use Rattle.borsh_values.specs.Free.{AreFirst}
use Rattle.borsh_values.proofs.FreeLaws.{first_no_parts, first_more}
use Rattle.borsh_values.proofs.runs.parts_length.Goals as goal

pub loop-part-init : goal.loop-part-init
loop-part-init c = first_no_parts (definitions_of c.args.plan.now) c.args.left.now

pub loop-part-smaller : goal.loop-part-smaller
loop-part-smaller c =
    let ns = names_of c.args.plan.now in
    let h = slice_get_within (parts_in (shape_at ns c.args.at)) c.loop-part.index (name_at ns c.in-Some.part) c.in-Some.ensures.place.1 in
    omega (arith, h)

pub loop-part-preserved : goal.loop-part-preserved
loop-part-preserved c =
    let C = definitions_of c.args.plan.now in
    let ns = names_of c.args.plan.now in
    let ps = parts_in (shape_at ns c.args.at) in
    let x = name_at ns c.in-Some.part in
    let n = c.in_ok-length.length in
    let f = subst (λ b. AreFirst C (x ∷ []) b n) c.after.ensures c.in_ok-length.ensures in
    subst (λ l. AreFirst C l c.args.left.now (c.loop-part.taken + n)) (sym (take_more ps c.loop-part.index c.in-Some.ensures.place.1)) (first_more C c.args.left.now c.loop-part.taken n c.loop-part.invariant f)

pub returns : goal.returns
returns c =
    let C = definitions_of c.args.plan.now in
    let ps = parts_in (shape_at (names_of c.args.plan.now) c.args.at) in
    subst (λ l. AreFirst C l c.args.left.now c.loop-part.taken) (take_whole ps c.loop-part.index c.in_default.ensures.place) c.loop-part.invariant
