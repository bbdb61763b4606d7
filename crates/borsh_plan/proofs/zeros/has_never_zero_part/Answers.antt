use Rattle.std.proofs.Common.{arith, refl}
use Rattle.std.proofs.lemmas.Option.{slice_get_within}
use Rattle.borsh_walks.proofs.Names.{among_get}
use Rattle.borsh_plan.specs.Names.{name_at, parts_in, shape_at}
use Rattle.borsh_plan.proofs.zeros.has_never_zero_part.Goals as goal

pub returns-then-is_never_zero_at : goal.returns-then-is_never_zero_at
returns-then-is_never_zero_at c = λ e.
    let place = c.in-Some.ensures.place in
    (c.in-Some.part, place.0, among_get (parts_in (shape_at c.args.names.now.names.items c.args.at)) c.loop-part.index place.1, c.if-is_never_zero_at.ensures refl)

pub overflow_add-index : goal.overflow_add-index
overflow_add-index c = let s = c.in-Some.ensures.small in omega (arith, s)

pub loop-part-smaller : goal.loop-part-smaller
loop-part-smaller c =
    let ns = c.args.names.now.names.items in
    let h = slice_get_within (parts_in (shape_at ns c.args.at)) c.loop-part.index (name_at ns c.in-Some.part) c.in-Some.ensures.place.1 in
    omega (arith, h)
