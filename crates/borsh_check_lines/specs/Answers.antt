-- What answers a line.
use Rattle.std.specs.Prelude.{◌≡◌, ℕ, Bool, List, ◌++◌, Some, MatchOption, codes}
use Rattle.borsh.specs.Codec.{Codec, IsDecodable}
use Rattle.borsh_check_lines.specs.Digits.{digits_of}
use Rattle.borsh_check_lines.specs.Lines.{IsErrorLine}
use Rattle.borsh_check_lines.specs.Requests.{Asked, asked}
use Rattle.borsh_check_lines.specs.Requests.Asked.{value, schema, about}
use Rattle.borsh_check_lines.specs.Schemas.{AnswersSchema}
use Rattle.borsh_check_lines.specs.Words.{meaning}
use Rattle.borsh_check_lines.specs.Containers.{AnswersInquiry}

-- what answers bytes that are to decode to some value: `ok` and the value's encoding, or an error
pub data AnswersValue {A : Type 0} (c : Codec A) (strict : Bool) (bytes out : List ℕ) : Type 0 where
  accepted : (v : A) (again : List ℕ) → c.decodes strict bytes v → c.encoding v ≡ Some again → out ≡ codes "ok " ++ digits_of again → AnswersValue c strict bytes out
  refused : (IsDecodable c strict bytes → ⊥) → IsErrorLine out → AnswersValue c strict bytes out

abbrev pub AnswersAsked : Asked → List ℕ → Type 0
AnswersAsked (value word strict bytes) out = AnswersValue (meaning word).codec strict bytes out
AnswersAsked (schema word) out = AnswersSchema (meaning word).schema out
AnswersAsked (about inquiry bytes) out = AnswersInquiry inquiry bytes out

-- what answers a line; a line that is no command is answered `error line`
abbrev pub Answers : List ℕ → List ℕ → Type 0
Answers line out = MatchOption (asked line) (out ≡ codes "error line") (λ a. AnswersAsked a out)
