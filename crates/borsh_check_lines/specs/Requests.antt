-- What a line asks for.
use Rattle.std.specs.Prelude.{◌≡◌, MatchOption, ℕ, ◌+◌, ◌==◌, Bool, true, false, List, take, drop, Option, Some, None, option_and_then, if◌then◌else◌, codes, nat_eq, position}
use Rattle.std.specs.Option.{option_map}
use Rattle.std.specs.Cmp.Lexicographic.{pointwise}
use Rattle.borsh_check_lines.specs.declared.words.Word.{Word}
use Rattle.borsh_check_lines.specs.declared.requests.Inquiry.{Inquiry}
use Rattle.borsh_check_lines.specs.declared.requests.Inquiry.TheVariants.{Check, Size, Counts}
use Rattle.borsh_check_lines.specs.declared.requests.Request.{Request}
use Rattle.borsh_check_lines.specs.declared.requests.Request.TheVariants.{Value, Schema, About}
use Rattle.borsh_check_lines.specs.Words.{word_named}
use Rattle.borsh_check_lines.specs.Digits.{bytes_written}

-- the `?` of an option
infixl 10 ◌>>=◌
abbrev pub ◌>>=◌ : {A B : Type 0} → Option A → (A → Option B) → Option B
o >>= f = option_and_then f o

-- what a line asks for
pub data Asked : Type 0 where
  -- that bytes are read as a value of a type, in the strict mode or not
  value : Word → Bool → List ℕ → Asked
  -- the container of a type
  schema : Word → Asked
  -- something about the container whose encoding the bytes are
  about : Inquiry → List ℕ → Asked

-- what a parsed line asks for
abbrev pub asked_by : Request → Asked
asked_by (Value word strict bytes) = value word strict bytes.items
asked_by (Schema word) = schema word
asked_by (About inquiry bytes) = about inquiry bytes.items

-- the answer is what was asked, if something was
abbrev pub IsRequest : Option Asked → Option Request → Type 0
IsRequest wanted answer = MatchOption answer (wanted ≡ None) (λ request. wanted ≡ Some (asked_by request))

-- the part before the first space, and the part behind it
abbrev pub cut : List ℕ → Option (List ℕ × List ℕ)
cut text = option_map (λ at. (take at text, drop (at + 1) text)) (position (λ b. b == 32) text)

-- `TYPE HEX`
abbrev pub asked_value : Bool → List ℕ → Option Asked
asked_value strict text = do
  parts ← cut text
  word ← word_named parts.0
  bytes ← bytes_written parts.1
  Some (value word strict bytes)

-- `TYPE`
abbrev pub asked_schema : List ℕ → Option Asked
asked_schema text = do
  word ← word_named text
  Some (schema word)

-- `HEX`
abbrev pub asked_about : Inquiry → List ℕ → Option Asked
asked_about inquiry text = do
  bytes ← bytes_written text
  Some (about inquiry bytes)

abbrev is : List ℕ → List ℕ → Bool
is command name = pointwise nat_eq command name

-- a command and what follows its space
abbrev pub asked_command : List ℕ → List ℕ → Option Asked
asked_command command text =
    if is command (codes "read") then asked_value true text else (if is command (codes "canon") then asked_value false text else (if is command (codes "schema") then asked_schema text else (if is command (codes "check") then asked_about Check text else (if is command (codes "size") then asked_about Size text else (if is command (codes "counts") then asked_about Counts text else None)))))

-- what a line asks for; nothing where it is no command
abbrev pub asked : List ℕ → Option Asked
asked line = option_and_then (λ parts. asked_command parts.0 parts.1) (cut line)
