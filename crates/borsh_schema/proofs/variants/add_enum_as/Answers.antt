use Rattle.std.proofs.Common.{◌++◌, ◌∙◌, ap, refl}
use Rattle.std.specs.Prelude.{map}
use Rattle.std.specs.Slice.Iter.{iter_rest}
use Rattle.borsh_definitions.specs.Described.{variant_bytes, choice}
use Rattle.borsh_schema.specs.Variants.{row_names}
use Rattle.borsh_schema.proofs.Outcomes.{adds_defined}
use Rattle.borsh_schema.proofs.Steps.{adds_then_left}
use Rattle.borsh_schema.proofs.Built.{adds_as}
use Rattle.borsh_schema.proofs.variants.add_enum_as.Goals as goal

pub returns : goal.returns
returns g c =
    adds_as refl
    (ap (λ rows. choice 1 rows)
    (c.in_ok-push_variants.ensures.rows
    ∙ ap (λ xs. map variant_bytes xs ++ (g.V.VariantTypes.read c.args.name.now (row_names (iter_rest c.iter.result))).rows) c.in_ok-variants.ensures.items
    ∙ ap (λ xs. (g.V.VariantTypes.read c.args.name.now (row_names xs)).rows) c.iter.ensures.rest))
    (adds_defined
    (adds_then_left (λ xs. (g.V.VariantTypes.read c.args.name.now (row_names xs)).parts) c.iter-2.ensures.rest c.in_ok-add_definition.ensures.outcome c.add_variants.ensures.outcome))
