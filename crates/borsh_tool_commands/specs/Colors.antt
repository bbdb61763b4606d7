-- Text in colours.
use Rattle.std.specs.Prelude.{◌≡◌, ℕ, Bool, true, List, [], ◌∷◌, ◌++◌, if◌then◌else◌}
use Rattle.borsh_json.specs.Ascii.{IsPlain}
use Rattle.borsh_tool_commands.specs.declared.colors.Color.{Color}
use Rattle.borsh_tool_commands.specs.declared.colors.Color.TheVariants.{Green, Yellow, Cyan, Default}

-- the digit that stands for a colour
abbrev pub color_digit : Color → ℕ
color_digit Green = 50
color_digit Yellow = 51
color_digit Cyan = 54
color_digit Default = 57

-- the code from which on text has a colour: escape, `[3`, the digit, `m`
abbrev pub color_code : Color → List ℕ
color_code c = 27 ∷ 91 ∷ 51 ∷ color_digit c ∷ 109 ∷ []

-- printable ASCII and line feeds, and, where there are colours, their codes
pub data Painted (colored : Bool) : List ℕ → Type 0 where
  nothing : Painted colored []
  plain : (b : ℕ) {bs : List ℕ} → IsPlain b → Painted colored bs → Painted colored (b ∷ bs)
  code : (c : Color) {bs : List ℕ} → colored ≡ true → Painted colored bs → Painted colored (color_code c ++ bs)

-- the same as a fact, however often it is proved
abbrev pub IsPainted : Bool → List ℕ → Type 0
IsPainted colored text = ∥ Painted colored text ∥₁

-- a text in a colour, where there are colours
abbrev pub painted : Bool → Color → List ℕ → List ℕ
painted colored c text = if colored then color_code c ++ (text ++ color_code Default) else text
