-- Values that are one of two kinds.
use Rattle.std.specs.Prelude.{Bool, true, false, Option, Some, None, Result, Ok, Err, ◌⊎◌, ⊤}
use mathlib.Core.Logic.{inl, inr}
use Rattle.borsh_codec.specs.Codec.{Codec}
use Rattle.borsh_codec.specs.Shapes.{contramap, unit, never, variant}

-- two variants that follow each other, tagged 0 and 1
abbrev pub two_variants : {A B : Type 0} → Codec A → Codec B → Codec (A ⊎ (B ⊎ ⊥))
two_variants a b = variant 0 a (variant 1 b never)

-- ---- bool

abbrev pub bool_view : Bool → ⊤ ⊎ (⊤ ⊎ ⊥)
bool_view false = inl tt
bool_view true = inr (inl tt)

abbrev pub bool : Codec Bool
bool = contramap bool_view (two_variants unit unit)

-- ---- Option

abbrev pub option_view : {A : Type 0} → Option A → ⊤ ⊎ (A ⊎ ⊥)
option_view None = inl tt
option_view (Some a) = inr (inl a)

abbrev pub option : {A : Type 0} → Codec A → Codec (Option A)
option c = contramap option_view (two_variants unit c)

-- ---- Result

-- the error comes first
abbrev pub result_view : {A E : Type 0} → Result A E → E ⊎ (A ⊎ ⊥)
result_view (Err e) = inl e
result_view (Ok a) = inr (inl a)

abbrev pub result_of : {A E : Type 0} → Codec A → Codec E → Codec (Result A E)
result_of a e = contramap result_view (two_variants e a)
