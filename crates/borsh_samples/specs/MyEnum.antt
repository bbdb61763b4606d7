-- The meaning of an enum: the tag of a variant and its part.
use Rattle.std.specs.Prelude.{ℕ, ⊤, Vec, ◌⊎◌}
use Rattle.std.specs.Global.{Global}
use mathlib.Core.Logic.{inl, inr}
use Rattle.std.proofs.Common.{arith, refl}
use Rattle.borsh_samples.specs.declared.my_enum.MyEnum.{MyEnum}
use Rattle.borsh_samples.specs.declared.my_enum.MyEnum.TheVariants.{Zero, One, Many}
use Rattle.borsh.specs.Codec.{Codec, Lawful}
use Rattle.borsh.specs.Shapes.{contramap, unsigned, unit, list, never, variant}
use Rattle.borsh.specs.Laws.Exact.{contramap-lawful, unit-lawful}
use Rattle.borsh.specs.Laws.Numbers.{unsigned-lawful}
use Rattle.borsh.specs.Laws.Rows.{list-lawful}
use Rattle.borsh.specs.Laws.Variants.{variant-lawful, variant_last, variant_avoids, nothing_avoids}

abbrev pub my_enum_view : MyEnum → ⊤ ⊎ (ℕ ⊎ (Vec ℕ Global ⊎ ⊥))
my_enum_view Zero = inl tt
my_enum_view (One n) = inr (inl n)
my_enum_view (Many v) = inr (inr (inl v))

abbrev pub list_u8 : Codec (Vec ℕ Global)
list_u8 = contramap (λ v. v.items) (list (unsigned 1))

pub list_u8-lawful : Lawful (Vec ℕ Global) list_u8
list_u8-lawful = contramap-lawful (λ v. v.items) (list-lawful (unsigned-lawful 1))

abbrev pub my_enum : Codec MyEnum
my_enum = contramap my_enum_view (variant 0 unit (variant 1 (unsigned 1) (variant 2 list_u8 never)))

pub my_enum-lawful : Lawful MyEnum my_enum
my_enum-lawful =
    contramap-lawful my_enum_view
    (variant-lawful 0 unit-lawful
    (variant-lawful 1 (unsigned-lawful 1)
    (variant_last 2 list_u8-lawful)
    (variant_avoids list_u8 never (λ e. omega arith) (nothing_avoids 1)) refl)
    (variant_avoids (unsigned 1) (variant 2 list_u8 never) (λ e. omega arith) (variant_avoids list_u8 never (λ e. omega arith) (nothing_avoids 0))) refl)
