-- Text that a terminal shows as it is.
use Rattle.std.specs.Prelude.{ℕ, ◌/◌, ◌%◌, ◌==◌, ◌&&◌, ◌||◌, not, Bool, false, List, [], ◌∷◌, ◌++◌, flat_map, if◌then◌else◌}
use Rattle.std.specs.List.{list_all}
use Rattle.std.specs.Char.{digit_char, is_ascii_digit, is_ascii_alphanumeric}
use Rattle.borsh_json.specs.Ascii.{is_printable}

-- a byte as two hexadecimal digits
abbrev pub digits : ℕ → List ℕ
digits b = digit_char (b / 16) ∷ digit_char (b % 16) ∷ []

-- how a byte of a text is printed: printable ASCII as itself, another byte as `\x` and two digits
abbrev pub escaped : ℕ → List ℕ
escaped b = if is_printable b then b ∷ [] else 92 ∷ 120 ∷ digit_char (b / 16) ∷ digit_char (b % 16) ∷ []

-- ---- names

-- a letter, a digit or an underscore
abbrev pub is_word : ℕ → Bool
is_word b = is_ascii_alphanumeric b || b == 95

abbrev pub is_identifier : List ℕ → Bool
is_identifier [] = false
is_identifier (b ∷ bs) = not (is_ascii_digit b) && list_all is_word (b ∷ bs)

-- how a byte is printed between quotation marks: with a backslash before a quotation mark or a backslash
abbrev pub quoted : ℕ → List ℕ
quoted b = if b == 34 || b == 92 then 92 ∷ escaped b else escaped b

-- how a name is printed: an identifier as it is, any other name between quotation marks
abbrev pub name_text : List ℕ → List ℕ
name_text name = if is_identifier name then flat_map escaped name else (34 ∷ flat_map quoted name) ++ (34 ∷ [])
