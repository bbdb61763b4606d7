use Rattle.std.proofs.Common.{◌∙◌, arith, ap, subst, sym, take}
use Rattle.std.specs.Prelude.{slice_get}
use Rattle.borsh_plan.specs.{Names.IsPlaceOf, Names.parts_in, Plan.definitions_of, Plan.names_of}
use Rattle.borsh_values.specs.Membership.{few_for_tag}
use Rattle.borsh_values.specs.Tags.{FoundAs}
use Rattle.borsh_values.proofs.TagLaws.{unnamed, keeps_same}
use Rattle.borsh_values.proofs.TakesLaws.{found_choice, found_none_choice, found_there, short_choice, tag_refused, several_ambiguous, too_short}
use Rattle.borsh_values.proofs.opening.open_enum.Goals as goal

pub returns-then-bytes-size-clause-opened : goal.returns-then-bytes-size-clause-opened
returns-then-bytes-size-clause-opened c = ((λ x e. too_short (definitions_of c.args.plan.now) (λ m. short_choice (definitions_of c.args.plan.now) (let h = c.if-bytes-size.true in let s = c.from-size.ensures in omega (arith, h, s)) e m)), few_for_tag (let h = c.if-bytes-size.true in let s = c.from-size.ensures in omega (arith, h, s)))

pub returns-then-bytes-size-clause-kept : goal.returns-then-bytes-size-clause-kept
returns-then-bytes-size-clause-kept c = keeps_same c.args.tables.now c.requires.table

pub returns-in-Nothing-clause-opened : goal.returns-in-Nothing-clause-opened
returns-in-Nothing-clause-opened c =
    let vs = unnamed c.args.variants.now.items in
    let bytes = c.args.bytes.now in
    let size = c.from-size.result in
    let found = subst (λ f. FoundAs vs (take size bytes) f) c.in-Nothing.is c.in_ok-find_variant_of.ensures.found in
    ((λ x e more _ m. found_none_choice c.args.width size bytes vs c.from-size.ensures c.if-bytes-size.false found (definitions_of c.args.plan.now) x e more m), tag_refused (definitions_of c.args.plan.now) c.args.width size bytes vs c.from-size.ensures c.if-bytes-size.false found)

pub returns-in-Some-clause-opened : goal.returns-in-Some-clause-opened
returns-in-Some-clause-opened c =
    let vs = unnamed c.args.variants.now.items in
    let ns = names_of c.args.plan.now in
    let bytes = c.args.bytes.now in
    let size = c.from-size.result in
    let i = c.in-One.index in
    let found = subst (λ f. FoundAs vs (take size bytes) f) c.in-One.is c.in_ok-find_variant_of.ensures.found in
    let h = subst (λ o. IsPlaceOf ns c.args.at i o) c.in-Some.is c.part.ensures.place in
    let at = ap (λ s. slice_get (parts_in s) i) (sym c.requires.shape) ∙ h.1 in
    (found_choice (definitions_of c.args.plan.now) c.args.width size i _ bytes vs c.from-size.ensures c.if-bytes-size.false found at, omega arith, h.0)

pub returns-in-None-clause-opened : goal.returns-in-None-clause-opened
returns-in-None-clause-opened c =
    let vs = unnamed c.args.variants.now.items in
    let ns = names_of c.args.plan.now in
    let bytes = c.args.bytes.now in
    let size = c.from-size.result in
    let i = c.in-One.index in
    let found = subst (λ f. FoundAs vs (take size bytes) f) c.in-One.is c.in_ok-find_variant_of.ensures.found in
    let h = subst (λ o. IsPlaceOf ns c.args.at i o) c.in-None.is c.part.ensures.place in
    absurd (found_there vs (take size bytes) i found (ap (λ s. slice_get (parts_in s) i) (sym c.requires.shape) ∙ h))

pub returns-in-Several-clause-opened : goal.returns-in-Several-clause-opened
returns-in-Several-clause-opened c =
    let vs = unnamed c.args.variants.now.items in
    let bytes = c.args.bytes.now in
    let size = c.from-size.result in
    let found = subst (λ f. FoundAs vs (take size bytes) f) c.in-Several.is c.in_ok-find_variant_of.ensures.found in
    λ u _. several_ambiguous c.args.width size bytes vs c.from-size.ensures c.if-bytes-size.false found u
