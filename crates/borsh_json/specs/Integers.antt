-- Whole numbers that bytes encode.
use Rattle.std.specs.Prelude.{◌≡◌, ℕ, ℤ, pos, negsuc, List, Bool, true, false}
use Rattle.borsh_walks.specs.Container.{tag}
use Rattle.borsh_json.specs.{Table.{InRange}, declared.integers.Integer.{Integer}}

-- a negative number by one less than its absolute value, or another one
abbrev pub signed_as : Bool → ℕ → ℤ
signed_as true m = negsuc m
signed_as false m = pos m

abbrev pub integer_of : Integer → ℤ
integer_of i = signed_as i.is_negative i.magnitude

-- the bytes are those of the number, which they have room for
abbrev pub IsEncoded : ℕ → Bool → ℤ → List ℕ → Type 0
IsEncoded n signed z own = (own ≡ tag n z) × InRange n signed z
