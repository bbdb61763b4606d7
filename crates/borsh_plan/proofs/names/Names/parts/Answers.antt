use Rattle.std.proofs.Common.{◌∙◌, ap, subst, sym}
use Rattle.std.specs.Prelude.{slice_get}
use Rattle.borsh_plan.specs.Names.{AreParts, parts_in, places_in, shape_at}
use Rattle.borsh_plan.proofs.names.Names.parts.Goals as goal

pub returns : goal.returns
returns c =
    let l = c.args.self.now in
    let e = c.list_at.ensures ∙ ap (λ ps. places_in (slice_get ps c.args.at)) c.as_slice.ensures.value in
    subst (λ is. AreParts l.names.items is (parts_in (shape_at l.names.items c.args.at))) (sym e) (l.planned.parts c.args.at)
