-- The meaning of an enum of one variant: its tag.
use Rattle.std.specs.Prelude.{⊤, ◌⊎◌}
use mathlib.Core.Logic.{inl}
use Rattle.borsh_samples.specs.declared.one.One.{One}
use Rattle.borsh_samples.specs.declared.one.One.TheVariants.{Only}
use Rattle.borsh.specs.Codec.{Codec, Lawful}
use Rattle.borsh.specs.Shapes.{contramap, unit, never, variant}
use Rattle.borsh.specs.Laws.Exact.{contramap-lawful, unit-lawful}
use Rattle.borsh.specs.Laws.Variants.{variant_last}

abbrev pub one_view : One → ⊤ ⊎ ⊥
one_view Only = inl tt

abbrev pub one : Codec One
one = contramap one_view (variant 0 unit never)

pub one-lawful : Lawful One one
one-lawful = contramap-lawful one_view (variant_last 0 unit-lawful)
