-- Text of printable ASCII and line feeds, and text in one line.
use Rattle.std.specs.{Prelude.{◌≡◌, ◌≤◌, ℕ, ◌+◌, ◌-◌, ◌/◌, ◌%◌, ◌==◌, ◌&&◌, ◌||◌, Bool, true, cond, ltb, leb, List, [], ◌∷◌, ◌++◌, Result, OnOk, Some}, Char.{digit_char}}
use Rattle.json.specs.Json.{Json, document}

abbrev pub is_printable : ℕ → Bool
is_printable b = leb 32 b && ltb b 127

abbrev pub is_plain : ℕ → Bool
is_plain b = b == 10 || is_printable b

-- a line feed or printable ASCII
abbrev pub IsPlain : ℕ → Type 0
IsPlain b = is_plain b ≡ true

-- no line feed, nor another control character
abbrev pub IsInLine : ℕ → Type 0
IsInLine b = 32 ≤ b

-- the second text is the same JSON as the first, if that is JSON
abbrev pub IsSameJson : List ℕ → List ℕ → Type 0
IsSameJson old new = (j : Json) → document old ≡ Some j → document new ≡ Some j

-- these bytes were added
abbrev pub AddsText : {E : Type 0} → List ℕ → List ℕ → List ℕ → Result (Unit {0}) E → Type 0
AddsText bytes old new result = OnOk result (new ≡ old ++ bytes)

-- `\u` and the four hexadecimal digits of a code unit
abbrev pub unit_text : ℕ → List ℕ
unit_text u = 92 ∷ 117 ∷ digit_char (u / 4096 % 16) ∷ digit_char (u / 256 % 16) ∷ digit_char (u / 16 % 16) ∷ digit_char (u % 16) ∷ []

-- of a character, or of the two that it is in UTF-16
abbrev pub units_text : ℕ → List ℕ
units_text c = cond (ltb c 65536) (unit_text c) (unit_text (55296 + (c - 65536) / 1024) ++ unit_text (56320 + c % 1024))

-- what stands for a character in JSON in ASCII: a tab or carriage return is a space between tokens
abbrev pub character_text : ℕ → List ℕ
character_text c = cond (is_plain c) (c ∷ []) (cond (c == 9 || c == 13) (32 ∷ []) (units_text c))
