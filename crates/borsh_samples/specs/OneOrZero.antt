-- The meaning of a narrower enum: a variant that is refused has no encoding and is never decoded.
use Rattle.std.specs.Prelude.{true}
use Rattle.std.proofs.Common.{arith, refl}
use Rattle.borsh_samples.specs.declared.one_or_zero.OneOrZero.{OneOrZero}
use Rattle.borsh.specs.Codec.{Codec, Lawful}
use Rattle.borsh.specs.Shapes.{contramap, unsigned, unit, refused_if, never, variant}
use Rattle.borsh.specs.Laws.Exact.{contramap-lawful, unit-lawful, refused_if-lawful}
use Rattle.borsh.specs.Laws.Numbers.{unsigned-lawful}
use Rattle.borsh.specs.Laws.Variants.{variant-lawful, variant_last, variant_avoids, nothing_avoids}
use Rattle.borsh_samples.specs.MyEnum.{my_enum_view, list_u8, list_u8-lawful}

abbrev pub one_or_zero : Codec OneOrZero
one_or_zero = contramap (λ v. my_enum_view v.0) (variant 0 unit (variant 1 (unsigned 1) (variant 2 (refused_if true list_u8) never)))

pub one_or_zero-lawful : Lawful OneOrZero one_or_zero
one_or_zero-lawful =
    contramap-lawful (λ v. my_enum_view v.0)
    (variant-lawful 0 unit-lawful
    (variant-lawful 1 (unsigned-lawful 1)
    (variant_last 2 (refused_if-lawful true list_u8-lawful))
    (variant_avoids (refused_if true list_u8) never (λ e. omega arith) (nothing_avoids 1)) refl)
    (variant_avoids (unsigned 1) (variant 2 (refused_if true list_u8) never) (λ e. omega arith) (variant_avoids (refused_if true list_u8) never (λ e. omega arith) (nothing_avoids 0))) refl)
