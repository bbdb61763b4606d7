-- Floats as text.
use Rattle.std.specs.{Prelude.{◌≡◌, ◌⊎◌, ℕ, ◌<◌, ◌*◌, ◌^◌, List, true, false, Option, Some, MatchOption, is_nan, from_bits}, Float.{Float, Format}, Float.Ieee.{top}, Float.Parse.{parse_float}}
use Rattle.json.specs.{Json.{Json}, Print.{IsNumber}}
use Rattle.borsh_walks.specs.Container.{little_endian}
use Rattle.borsh_json.specs.Table.{float_size, float_of, infinity_of, IsFloat}

-- the bytes are those of a NaN
abbrev pub IsNan : Format → List ℕ → Type 0
IsNan f bytes = (bits : ℕ) × (bytes ≡ little_endian (float_size f) bits) × (bits < 256 ^ float_size f) × (is_nan (from_bits f bits) ≡ true)

-- the text reads back as the float: it is a number, or the word of an infinity
abbrev pub ReadsBack : Format → Float → List ℕ → Type 0
ReadsBack f v s = (parse_float f s ≡ Some v) × (IsNumber s ⊎ (infinity_of s ≡ Some v))

-- the text reads back as the float of these bytes
abbrev pub IsFloatText : Format → List ℕ → List ℕ → Type 0
IsFloatText f own s = (v : Float) × IsFloat f v own × ReadsBack f v s

-- the bits of the float that JSON is; none where it is no float but a NaN
abbrev pub AreBitsOf : Format → Json → Option ℕ → Type 0
AreBitsOf f j found = MatchOption found
    ((v : Float) → float_of f j ≡ Some v → is_nan v ≡ true)
    (λ bits. (bits < 2 * top f) × (float_of f j ≡ Some (from_bits f bits)) × (is_nan (from_bits f bits) ≡ false))
