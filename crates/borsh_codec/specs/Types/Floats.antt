-- Floating-point numbers: their bits, as a number of so many bytes that is not a NaN's.
use Rattle.std.specs.Prelude.{ℕ, Bool, false, not}
use lib.Ieee.{Float, Format, binary32, binary64, to_bits, nan_bits}
use Rattle.borsh_codec.specs.Codec.{Codec}
use Rattle.borsh_codec.specs.Shapes.{contramap, unsigned, filtered}

-- the bits are no NaN's
abbrev pub is_number : Format → ℕ → Bool
is_number f b = not (nan_bits f b)

-- n bytes of such bits
abbrev pub float_bits : Format → ℕ → Codec ℕ
float_bits f n = filtered false (is_number f) (unsigned n)

-- -0.0 and 0.0 are two values, since their bits differ
abbrev pub float : Format → ℕ → Codec Float
float f n = contramap (to_bits f) (float_bits f n)

abbrev pub float32 : Codec Float
float32 = float binary32 4

abbrev pub float64 : Codec Float
float64 = float binary64 8
