-- The text of JSON: how it is laid out, and which of its values are numbers.
use Rattle.std.specs.{Prelude.{◌≡◌, ◌⊎◌, ℕ, List, Bool, true, false, Option, Some}, Float.{Format}, List.{Contains}}
use Rattle.json.specs.{Json.{Json, document, number, string}, Layout.{pretty}, Lex.{tokens}, Print.{print}, Token.{Token}}
use Rattle.borsh_json.specs.{declared.output.Layout.{Layout}, declared.output.Layout.TheVariants.{Compact, Pretty}, declared.output.LongNumbers.{LongNumbers}, declared.output.LongNumbers.TheVariants.{Plain, Quoted}, Forms.{Form}, InOrder.{IsEach}, Table.{HasKind, float, whole}}

-- on one line, or in several
abbrev pub layout_if : Bool → Layout
layout_if true = Compact
layout_if false = Pretty

-- numbers of 64 bits as strings, or as numbers
abbrev pub numbers_if : Bool → LongNumbers
numbers_if true = Quoted
numbers_if false = Plain

-- tokens in a layout: without white space, or with a line for each item and member; strings have their shortest escapes
abbrev pub laid_out : Layout → List Token → List ℕ
laid_out Compact ts = print ts
laid_out Pretty ts = pretty ts

-- the text is its tokens in this layout, and so has no other white space
abbrev pub IsPrinted : Layout → List ℕ → Type 0
IsPrinted layout text = text ≡ laid_out layout (tokens text)

-- the text has a point or an exponent
abbrev pub IsMarked : List ℕ → Type 0
IsMarked s = Contains s 46 ⊎ Contains s 101

module _ (F : List ℕ → Option Form) where
  -- JSON of the name is a string if it is a whole number of 64 bits, and of a float a number only with a point or an exponent
  abbrev pub QuotesLong : List ℕ → Json → Type 0
  QuotesLong x i =
      ((signed non_zero : Bool) → HasKind F x (whole 8 signed non_zero) → (s : List ℕ) × (i ≡ string s))
      × ((f : Format) (s : List ℕ) → HasKind F x (float f) → i ≡ number s → IsMarked s)

  -- so is each that the JSON text has
  abbrev pub HasQuotedNumbers : List ℕ → List ℕ → Type 0
  HasQuotedNumbers root text = (j : Json) → document text ≡ Some j → IsEach F QuotesLong root j
