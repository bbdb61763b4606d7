use Rattle.std.proofs.Common.{◌≡◌, ◌+◌, sym, subst, []}
use Rattle.borsh_plan.specs.Plan.{names_of}
use Rattle.borsh_values.specs.declared.{frames.Rest.TheVariants.Parts, frames.Step.Step}
use Rattle.borsh_values.specs.Cursor.{StepsOn, remaining}
use Rattle.borsh_values.proofs.Walk.{parts_on, parts_end, fits_parts}
use Rattle.borsh_values.proofs.frames.next_part.Goals as goal

pub returns-in-Some : goal.returns-in-Some
returns-in-Some c =
    let ns = names_of c.args.plan.now in
    let at = c.in-Parts.at in
    let next = c.in-Parts.next in
    let low = fits_parts ns c.args.rest at next c.in-Parts.is c.requires.fits in
    let s : Step = record { at = c.in-Some.part; others = Parts at (next + 1) } in
    subst (λ r. StepsOn ns r s) (sym c.in-Parts.is) (parts_on ns at next c.in-Some.part low c.in-Some.ensures.place)

pub returns-in-None : goal.returns-in-None
returns-in-None c =
    let ns = names_of c.args.plan.now in
    subst (λ r. remaining ns r ≡ []) (sym c.in-Parts.is) (parts_end ns c.in-Parts.at c.in-Parts.next c.in-None.ensures.place)
