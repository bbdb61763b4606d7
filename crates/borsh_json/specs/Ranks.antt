-- Whole numbers as text, and numbers that order them.
use Rattle.std.specs.{Prelude.{◌≡◌, ◌⊎◌, ℕ, suc, ℤ, pos, negsuc, ◌+◌, ◌-◌, ◌^◌, ◌<◌, ◌≤◌, List, length, slice_index, Bool, true, false, Option, Some, None}, Fmt.{signed_decimal}}
use Rattle.borsh_json.specs.{Table.{Kind, whole, raw, InRange}, declared.numbers.Number.{Number}}

-- the kind of a primitive of n bytes, by the number that was found of it
abbrev pub number_found : ℕ → Option Number → Kind
number_found n None = raw n
number_found n (Some t) = whole t.size t.is_signed t.is_non_zero

-- a digit other than 0
abbrev pub IsLeading : ℕ → Type 0
IsLeading c = (49 ≤ c) × (c ≤ 57)

-- the text is `0`, or begins with another digit, perhaps after a minus
abbrev pub HasNoLeadingZero : List ℕ → Type 0
HasNoLeadingZero s =
    (0 < length s)
    × (((slice_index s 0 ≡ 48) × (length s ≡ 1))
    ⊎ IsLeading (slice_index s 0)
    ⊎ ((slice_index s 0 ≡ 45) × (1 < length s) × IsLeading (slice_index s 1)))

-- a number without a sign, greater for a greater number of the type
abbrev pub rank_of : Bool → ℤ → ℕ
rank_of false (pos m) = m
rank_of false (negsuc m) = 0
rank_of true (pos m) = 2 ^ 127 + m
rank_of true (negsuc m) = 2 ^ 127 - suc m

-- the text is a number of the type, in decimal as it is printed, and this is its rank
abbrev pub HasRank : ℕ → Bool → Bool → List ℕ → ℕ → Type 0
HasRank n signed non_zero s r = (z : ℤ) × (s ≡ signed_decimal z) × InRange n signed z × (non_zero ≡ true → z ≡ pos 0 → ⊥) × (r ≡ rank_of signed z)
