-- What the calls answer about many values of one container.
use Rattle.std.specs.Prelude.{◌≡◌, ◌≤◌, ◌<◌, ⊤, ℕ, Bool, List, [], ◌∷◌, ◌++◌, length, take, drop, slice_index, All, Option, None, Some, codes, string_bytes}
use Rattle.borsh_walks.specs.Container.{Shape, IsValid, Member}
use Rattle.borsh_walks.specs.Definitions.{definitions_in}
use Rattle.borsh_values.specs.Membership.{BeginsWith, IsFront, HasNoFront, IsUndecided}
use Rattle.borsh_values.specs.Unambiguous.{IsUnambiguous}
use Rattle.borsh_values.specs.declared.faults.Fault.{Fault}
use Rattle.borsh_json.specs.Ascii.{IsInLine}
use Rattle.borsh_json.specs.Errors.{IsNoJsonReason}
use Rattle.borsh_json.specs.Forms.{forms_in}
use Rattle.borsh_json.specs.NoJson.{ShowsNoJson}
use Rattle.borsh_json.specs.declared.error.JsonError.{JsonError}
use Rattle.borsh_json.specs.declared.error.JsonError.TheVariants.{OutOfMemory as NoJsonRoom}
use Rattle.borsh_json.specs.declared.output.Layout.TheVariants.{Compact}
use Rattle.borsh_json.specs.declared.output.LongNumbers.{LongNumbers}
use Rattle.borsh_json.specs.Printed.{numbers_if}
use Rattle.borsh_c.specs.Answers.{Alone, Answers, About, Definitions, Saying, HasNoJson, IsJsonOf, IsShort, IsUnclear, Never}
use Rattle.borsh_c.specs.declared.many.Stop.{Stop}
use Rattle.borsh_c.specs.declared.many.Stop.TheVariants.{End, EmptyValue, Short as StopsShort, NoMember, Ambiguous}
use Rattle.borsh_c.specs.declared.many.Whole.{Whole}
use Rattle.borsh_c.specs.declared.many.Whole.TheVariants.{Values, Short}

-- what is behind values of these lengths
abbrev pub behind : List ℕ → List ℕ → List ℕ
behind [] bytes = bytes
behind (n ∷ ns) bytes = behind ns (drop n bytes)

-- ---- how long values are

module _ (C : List ℕ → Option Shape) (root : List ℕ) where
  -- the bytes begin with values of these lengths, each of at least one byte; no others begin there, whatever bytes follow
  abbrev pub BeginWithLengths : List ℕ → List ℕ → Type 0
  BeginWithLengths [] bytes = ⊤
  BeginWithLengths (n ∷ ns) bytes = (0 < n) × IsFront C root bytes n × BeginWithLengths ns (drop n bytes)

  -- why the values were gone through no further than to `left`, where there is room for some lengths
  abbrev pub IsStop : ℕ → ℕ → List ℕ → Stop → Type 0
  IsStop room count left End = count < room → left ≡ []
  IsStop room count left EmptyValue = Member C root []
  IsStop room count left (StopsShort f) = HasNoFront C root left f
  IsStop room count left (NoMember f) = (more : List ℕ) → HasNoFront C root (left ++ more) f
  IsStop room count left (Ambiguous x) = IsUndecided C root x.now

  -- why there are no more lengths: no room for one or no bytes; else there are some, and no value begins behind the last, or not one alone
  pub data NoMore (room count : ℕ) (left : List ℕ) : Type 0 where
    done : (count < room → left ≡ []) → NoMore room count left
    none : 0 < count → (BeginsWith C root left → ⊥) → NoMore room count left
    empty : 0 < count → Member C root [] → NoMore room count left
    unclear : 0 < count → (IsValid C root → IsUnambiguous C root → ⊥) → NoMore room count left

  -- the first lengths are those of the values that the bytes begin with, and there are no more
  pub record AreLengths (bytes lengths : List ℕ) (count : ℕ) : Type 0 where
    pub room : count ≤ length lengths
    pub values : BeginWithLengths (take count lengths) bytes
    pub last : NoMore (length lengths) count (behind (take count lengths) bytes)

-- ---- JSON

module _ (long : LongNumbers) (m : Definitions) (root : List ℕ) where
  -- one line of JSON of a value
  abbrev pub IsLineOf : List ℕ → List ℕ → Type 0
  IsLineOf value line = IsJsonOf Compact long value line m root × All IsInLine line

  -- the text has a line of JSON, and a line end behind it, for each of the values that have these lengths, one after another
  abbrev pub HaveLines : List ℕ → List ℕ → List ℕ → Type 0
  HaveLines [] values text = text ≡ []
  HaveLines (n ∷ ns) values text = (line : List ℕ) × (rest : List ℕ) × (text ≡ line ++ (10 ∷ rest)) × IsLineOf (take n values) line × HaveLines ns (drop n values) rest

module _ (m : Definitions) (root : List ℕ) where
  -- why the value behind so many others has no line, if there is one
  abbrev pub IsNoLine : List ℕ → List ℕ → ℕ → Option JsonError → Type 0
  IsNoLine lengths values count None = count ≡ length lengths
  IsNoLine lengths values count (Some e) =
      (count < length lengths) × (e ≡ NoJsonRoom → ⊥)
      × IsNoJsonReason (definitions_in m) root (take (slice_index lengths count) (behind (take count lengths) values)) e
      × ShowsNoJson (forms_in m) root (take (slice_index lengths count) (behind (take count lengths) values)) e

-- the first values have lines, at least one has, and the next one has none
pub record AreLines (long : LongNumbers) (values lengths : List ℕ) (count : ℕ) (text : List ℕ) (m : Definitions) (root : List ℕ) : Type 0 where
  pub room : count ≤ length lengths
  pub lines : HaveLines long m root (take count lengths) values text
  pub some : 0 < length lengths → 0 < count
  pub last : (stop : Option JsonError) × IsNoLine m root lengths values count stop

-- ---- what the calls say

-- no value begins there, whatever bytes follow, and the offset is that of the fault; without one the root has the empty value
abbrev pub IsNoRecord : List ℕ → Option ℕ → List ℕ → Saying
IsNoRecord bytes None text m root = Member (definitions_in m) root [] × (text ≡ codes "the type has a value without bytes, so that any bytes are any number of values")
IsNoRecord bytes (Some offset) text m root = IsShort text × (f : Fault) × (f.offset ≡ offset) × ((more : List ℕ) → HasNoFront (definitions_in m) root (bytes ++ more) f)

-- no first bytes are a value, and the offset is that of the fault
abbrev pub IsCutShort : List ℕ → Option ℕ → List ℕ → Saying
IsCutShort bytes None text m root = ⊥
IsCutShort bytes (Some offset) text m root = IsShort text × (f : Fault) × (f.offset ≡ offset) × HasNoFront (definitions_in m) root bytes f

-- the first of the values with these lengths has no JSON
abbrev pub HasNoLine : List ℕ → List ℕ → Option ℕ → List ℕ → Saying
HasNoLine values [] offset = Never
HasNoLine values (n ∷ ns) offset = HasNoJson (take n values) offset

-- how many values there are, or where the first is cut
abbrev pub CountsValues : List ℕ → List ℕ → List ℕ → Whole → Type 0
CountsValues schema bytes lengths (Values count) = About schema (λ m root. AreLengths (definitions_in m) root bytes lengths count)
CountsValues schema bytes lengths (Short said) = About schema (IsCutShort bytes said.offset (string_bytes said.text))

-- ---- the outcomes of the calls

-- code 0: the lengths are given; code 6: the bytes end within the first value; code 1: they begin with none
pub data AnswersRecords (schema bytes lengths : List ℕ) (count : ℕ) (offset : Option ℕ) (code : ℕ) (given : List ℕ) : Type 0 where
  whole : Answers schema (Alone (λ C root. AreLengths C root bytes lengths count)) (IsNoRecord bytes offset) IsUnclear code given → AnswersRecords schema bytes lengths count offset code given
  cut : About schema (IsCutShort bytes offset given) → code ≡ 6 → AnswersRecords schema bytes lengths count offset code given

-- code 0: lines are given; code 1: the first value has no JSON
abbrev pub AnswersLines : List ℕ → List ℕ → List ℕ → Bool → ℕ → Option ℕ → ℕ → List ℕ → Type 0
AnswersLines schema values lengths quoted count offset = Answers schema (AreLines (numbers_if quoted) values lengths count) (HasNoLine values lengths offset) IsUnclear
