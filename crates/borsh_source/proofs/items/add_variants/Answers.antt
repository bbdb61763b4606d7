use Rattle.std.proofs.Common.{◌∷◌, [], ◌++◌, ◌+◌, map, sym, ◌∙◌, ap, subst}
use Rattle.std.specs.Prelude.{string_bytes}
use Rattle.borsh_definitions.specs.Described.{variant_bytes}
use Rattle.borsh_source.specs.Container.{Brought, definitions_so_far, uses_in}
use Rattle.borsh_source.specs.Meaning.{VariantsBring, of_none, IsNewTag}
use Rattle.borsh_source.specs.Views.{source_of, parameters_of, given_in}
use Rattle.borsh_source.proofs.Defining.{variants_more, row}
use Rattle.borsh_source.proofs.Lists.{item_at}
use Rattle.borsh_source.proofs.Steps.{brought_none}
use Rattle.borsh_source.proofs.items.add_variants.Goals as goal

pub loop-variant-init : goal.loop-variant-init
loop-variant-init c = subst (λ l. Brought (VariantsBring (source_of c.args.context.now) (parameters_of c.args.scope) (given_in c.args.scope) c.args.item.now c.args.explicit [] l 0) (definitions_so_far c.args.output.now) (definitions_so_far c.args.output.now) (uses_in c.args.output.now) (uses_in c.args.output.now)) (sym (ap (map variant_bytes) c.new-rows.ensures.items)) (brought_none _ _ of_none)

pub loop-variant-preserved : goal.loop-variant-preserved
loop-variant-preserved c =
    let one = c.variant-item.result in
    let at = item_at c.args.variants.now c.loop-variant.variant-index one c.loop-variant-test.true c.variant-item.is in
    variants_more (source_of c.args.context.now) (parameters_of c.args.scope) (given_in c.args.scope) c.args.item.now c.args.explicit c.args.variants.now c.loop-variant.variant-index one (map variant_bytes c.loop-variant.rows.items) _ c.loop-variant.next c.in_ok-tag.tag _ (string_bytes c.in_ok-whole.whole) (string_bytes c.in_ok-name.name) at c.in_ok-tag.ensures.tag c.in_ok-tag.ensures.small (subst (λ l. IsNewTag c.in_ok-tag.tag (map variant_bytes l)) c.as_slice.ensures.value c.in_ok-tag.ensures.new) c.in_ok-whole.ensures
    (c.in_ok-push_row.ensures ∙ ap (λ n. map variant_bytes c.loop-variant.rows.items ++ row c.in_ok-tag.tag n c.in_ok-whole.whole ∷ []) c.as_str-in-loop-variant.ensures.value)
    (ap (λ k. k + 1) c.from-next.ensures) (c.in_ok-name.ensures.ok ∙ c.as_str.ensures.value) c.loop-variant.invariant c.in_ok-add_fields.ensures
