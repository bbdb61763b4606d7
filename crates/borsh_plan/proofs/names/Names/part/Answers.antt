use Rattle.std.proofs.Common.{◌∙◌, ap}
use Rattle.std.specs.Prelude.{slice_get}
use Rattle.borsh_plan.specs.Names.{places_in}
use Rattle.borsh_plan.proofs.Places.{place_is}
use Rattle.borsh_plan.proofs.names.Names.part.Goals as goal

pub returns-clause-place : goal.returns-clause-place
returns-clause-place c =
    let l = c.args.self.now in
    let e = c.listed_at.ensures.place ∙ ap (λ ps. slice_get (places_in (slice_get ps c.args.at)) c.args.index) c.as_slice.ensures.value in
    place_is l.map.now l.root.now l.names.items l.parts.items l.planned c.args.at c.args.index c.listed_at.result e
