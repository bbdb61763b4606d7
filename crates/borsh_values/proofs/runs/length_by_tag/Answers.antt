use Rattle.std.proofs.Common.{◌+◌, ◌∙◌, ap, subst, sym, arith}
use Rattle.std.specs.Prelude.{slice_get}
use Rattle.borsh_plan.proofs.Laws.{defined_at}
use Rattle.borsh_plan.specs.{Plan.definitions_of, Plan.names_of, Names.name_at, Names.parts_in}
use Rattle.borsh_values.specs.declared.tags.Found.TheVariants.{One}
use Rattle.borsh_values.specs.Tags.{FoundAs}
use Rattle.borsh_values.specs.Free.{IsTagLength}
use Rattle.borsh_values.proofs.TagLaws.{unnamed}
use Rattle.borsh_values.proofs.FreeLaws.{tag_length}
use Rattle.borsh_values.proofs.runs.length_by_tag.Goals as goal

pub returns : goal.returns
returns c =
    let l = c.args.plan.now in
    let C = definitions_of l in
    let ns = names_of l in
    let vs = unnamed c.args.variants.now.items in
    let i = c.in-One.index in
    let x = name_at ns c.args.at in
    let p = name_at ns c.in_ok-part.part in
    let size = c.in_ok-size.size in
    let found = subst (λ b. FoundAs vs b (One i)) c.as_slice.ensures (subst (λ f. FoundAs vs c.as_slice.result.now f) c.in-One.is c.find_variant.ensures) in
    let at = ap (λ s. slice_get (parts_in s) i) (sym c.requires.shape) ∙ c.in_ok-part.ensures.place.1 in
    let sum = c.in_ok-length.ensures in
    subst (λ n. IsTagLength C x c.args.tag n) {x = size + 1} {y = c.in_ok-length.length} (omega (arith, sum)) (tag_length C c.args.tag i size p vs (defined_at l c.args.at c.requires.within ∙ c.requires.shape) found at c.in_ok-size.ensures)
