use Rattle.std.proofs.Common.{map, take}
use Rattle.borsh_definitions.specs.Described.{variant_bytes}
use Rattle.borsh_source.specs.Container.{Brings}
use Rattle.borsh_source.specs.Meaning.{VariantsBring}
use Rattle.borsh_source.specs.Views.{source_of, parameters_of, given_in}
use Rattle.borsh_source.proofs.items.add_variants.Given as goal

abbrev pub invariant-loop-variant : goal.invariant-loop-variant
invariant-loop-variant l = Brings (VariantsBring (source_of l.context) (parameters_of l.scope) (given_in l.scope) l.item l.explicit (take l.variant-index l.variants) (map variant_bytes l.rows.items) l.next) l.fn.output l.output
