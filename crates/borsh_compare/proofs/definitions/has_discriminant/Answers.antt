use Rattle.std.proofs.Common.{◌∙◌, ap, Some}
use Rattle.std.specs.Prelude.{ℤ, ℕ, List, string_bytes}
use Rattle.borsh_values.proofs.TagLaws.{got}
use Rattle.borsh_walks.proofs.Propositions.{same_some}
use Rattle.borsh_compare.proofs.definitions.has_discriminant.Goals as goal

pub returns-in-Some-clause-has : goal.returns-in-Some-clause-has
returns-in-Some-clause-has c =
    let items = c.args.variants.now.items in
    let f = c.in-Some.variant.now in
    let v = got items _ c.args.index f c.deref.ensures.value c.in-Some.ensures.lookup.3.0 c.in-Some.ensures.lookup.1 in
    λ e. (string_bytes f.2, v.listed ∙ ap (λ k. Some (k, string_bytes f.2)) (c.is_with.ensures.is e))

pub returns-in-Some-clause-hasnt : goal.returns-in-Some-clause-hasnt
returns-in-Some-clause-hasnt c =
    let items = c.args.variants.now.items in
    let f = c.in-Some.variant.now in
    let v = got items _ c.args.index f c.deref.ensures.value c.in-Some.ensures.lookup.3.0 c.in-Some.ensures.lookup.1 in
    λ e q h. c.is_with.ensures.isnt e (ap (λ (z : ℤ × List ℕ). z.0) (same_some v.listed h))
