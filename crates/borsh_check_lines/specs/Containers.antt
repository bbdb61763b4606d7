-- What answers a question about a container.
use Rattle.std.specs.Prelude.{◌≡◌, ℕ, ◌^◌, ◌<◌, Bool, true, List, ◌++◌, Option, Some, codes, decimal}
use Rattle.std.specs.BTreeMap.{btree_map_len}
use Rattle.borsh.specs.Codec.{IsDecodable}
use Rattle.borsh_walks.specs.Answers.{IsSaid, SaysRules, SaysSize, spoken}
use Rattle.borsh_walks.specs.Container.{Shape, IsValid, MaxSize}
use Rattle.borsh_walks.specs.Counts.{SizeWork}
use Rattle.borsh_walks.specs.declared.counted.Expansions.{Expansions}
use Rattle.borsh_walks.specs.RulesState.{JudgedCounts, RulesWork}
use Rattle.borsh_walks.specs.SizeAnswer.{VisitsNeeded}
use Rattle.borsh_schema.specs.declared.container.BorshSchemaContainer.{BorshSchemaContainer}
use Rattle.borsh_schema.specs.Codecs.{container}
use Rattle.borsh_schema.specs.Containers.{language_of, map_of, root_of}
use Rattle.borsh_schema.specs.Questions.{SizedCounts}
use Rattle.borsh_check_lines.specs.declared.requests.Inquiry.{Inquiry}
use Rattle.borsh_check_lines.specs.declared.requests.Inquiry.TheVariants.{Check, Size, Counts}
use Rattle.borsh_check_lines.specs.Digits.{digits_of}
use Rattle.borsh_check_lines.specs.Lines.{IsErrorLine}

-- ---- `check` and `size`

-- `valid`, or a reached name breaks the rule that is named
abbrev pub IsRulesText : (List ℕ → Option Shape) → List ℕ → List ℕ → Type 0
IsRulesText C root out = (is_valid : Bool) × IsSaid (spoken digits_of) (SaysRules C root is_valid) out

-- the size, or why there is none
abbrev pub IsSizeText : (List ℕ → Option Shape) → List ℕ → List ℕ → Type 0
IsSizeText C root out = (size : Option ℕ) × IsSaid (spoken digits_of) (SaysSize C root size) out

-- ---- `counts`

abbrev pub counts_text : Expansions → List ℕ
counts_text e = codes "rules " ++ (decimal e.rules ++ (codes " zero " ++ (decimal e.zero ++ (codes " size " ++ decimal e.size))))

abbrev pub nothing_counted : Expansions
nothing_counted = record { size = 0; zero = 0; rules = 0 }

-- `size` rose by the number of names in some list, each there once, needed and defined
abbrev pub OnlyNeeded : (List ℕ → Option Shape) → List ℕ → Expansions → Expansions → Type 0
OnlyNeeded C root old new = (xs : List (List ℕ)) × VisitsNeeded C root old new xs

-- the counts after both questions, the rules first
pub record IsCountsText (c : BorshSchemaContainer) (out : List ℕ) : Type 0 where
  pub judged : Expansions
  pub counts : Expansions
  pub is : out ≡ counts_text counts
  -- the first question raised `rules` and `zero`, and the second one `size`, each by at most the number of definitions; the names that the first one checked are reached and defined
  pub few_judged : RulesWork (language_of c) (root_of c) (btree_map_len (map_of c)) nothing_counted judged
  pub few_sized : SizeWork (btree_map_len (map_of c)) judged counts
  -- where the container is valid, `rules` is the number of reached names, and `zero` at least that of checked elements
  pub rules : IsValid (language_of c) (root_of c) → JudgedCounts (language_of c) (root_of c) nothing_counted judged
  -- the names that the second question looked at are needed and defined, whatever it answered
  pub needed : OnlyNeeded (language_of c) (root_of c) judged counts
  -- where there is a size that fits, `size` is the number of names that it needs
  pub size : (n : ℕ) → MaxSize (language_of c) (root_of c) n → n < 2 ^ 64 → SizedCounts (language_of c) (root_of c) judged counts

-- ---- all of them

-- what answers a question about the container whose encoding the bytes are; for other bytes, a line with an error's text
pub data AnswersAbout (P : BorshSchemaContainer → List ℕ → Type 0) (bytes out : List ℕ) : Type 0 where
  answered : (c : BorshSchemaContainer) → container.encoding c ≡ Some bytes → P c out → AnswersAbout P bytes out
  unread : (IsDecodable container true bytes → ⊥) → IsErrorLine out → AnswersAbout P bytes out

abbrev pub AnswersInquiry : Inquiry → List ℕ → List ℕ → Type 0
AnswersInquiry Check bytes out = AnswersAbout (λ c o. IsRulesText (language_of c) (root_of c) o) bytes out
AnswersInquiry Size bytes out = AnswersAbout (λ c o. IsSizeText (language_of c) (root_of c) o) bytes out
AnswersInquiry Counts bytes out = AnswersAbout IsCountsText bytes out

-- where the container is valid, the counts are those of a validation
abbrev pub CountsIfValid : (List ℕ → Option Shape) → List ℕ → Expansions → Expansions → Type 0
CountsIfValid C root old new = IsValid C root → JudgedCounts C root old new

-- where there is a size that fits, the counts are those of the size
abbrev pub CountsIfSized : (List ℕ → Option Shape) → List ℕ → Expansions → Expansions → Type 0
CountsIfSized C root old new = (n : ℕ) → MaxSize C root n → n < 2 ^ 64 → SizedCounts C root old new
