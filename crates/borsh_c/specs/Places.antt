-- What a place for C tells.
use Rattle.std.specs.Prelude.{◌≡◌, ℕ, Option, None, Some, Bool, true, false}
use Rattle.borsh_c.specs.declared.place.Place.{Place}

-- a number, if there is one
abbrev pub number_if : Bool → ℕ → Option ℕ
number_if true n = Some n
number_if false n = None

-- the offset, if there is one
abbrev pub offset_of : Place → Option ℕ
offset_of p = number_if p.has_offset p.offset

-- it has neither an offset nor a path
abbrev pub IsNowhere : Place → Type 0
IsNowhere p = (p.has_offset ≡ false) × (p.has_path ≡ false)
