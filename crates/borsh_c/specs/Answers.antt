-- What the calls answer about the container whose encoding the bytes are.
use Rattle.std.specs.Prelude.{◌≡◌, ◌⊎◌, ◌≤◌, ◌++◌, ⊤, ℕ, List, [], length, Bool, true, false, Option, None, Some, String, Vec, string_bytes, codes, IsUtf8}
use Rattle.std.specs.Global.{Global}
use Rattle.std.specs.BTreeMap.{BTreeMap}
use Rattle.borsh_json.specs.Errors.{IsTextReason}
use Rattle.borsh_json.specs.Forms.{forms_in}
use Rattle.borsh_json.specs.InOrder.{Step, TextRepresents}
use Rattle.borsh_json.specs.Printed.{IsPrinted, layout_if, numbers_if, HasQuotedNumbers}
use Rattle.borsh_json.specs.Names.{TellsNames}
use Rattle.borsh_json.specs.NoJson.{RefusesBytes}
use Rattle.borsh_json.specs.NoValue.{ShowsNoValue}
use Rattle.borsh_json.specs.declared.error.JsonError.{JsonError}
use Rattle.borsh_json.specs.declared.error.JsonError.TheVariants.{OutOfMemory as NoJsonRoom, NoMember, NoValue, Ambiguous, NotJson, Refused}
use Rattle.borsh_json.specs.declared.error.Refusal.{Refusal}
use Rattle.borsh_json.specs.declared.output.Layout.{Layout}
use Rattle.borsh_json.specs.declared.output.LongNumbers.{LongNumbers}
use Rattle.borsh_json.specs.declared.output.LongNumbers.TheVariants.{Quoted}
use Rattle.borsh_codec.specs.Codec.{IsDecodable}
use Rattle.borsh_definitions.specs.Codecs.{root_and_map}
use Rattle.borsh_walks.specs.Answers.{IsSaid, SaysRules, SaysSize, spoken}
use Rattle.borsh_walks.specs.Container.{Shape, Member, MaxSize, IsValid}
use Rattle.borsh_walks.specs.Definitions.{definitions_in}
use Rattle.borsh_walks.specs.declared.definition.Definition.{Definition}
use Rattle.borsh_plan.specs.Names.{IsPlanned}
use Rattle.borsh_plan.specs.declared.named.Named.{Named}
use Rattle.borsh_values.specs.Membership.{IsUndecided, IsFault}
use Rattle.borsh_values.specs.Unambiguous.{IsUnambiguous}
use Rattle.borsh_values.specs.declared.faults.Fault.{Fault}
use Rattle.borsh_c.specs.Room.{IsGiven}
use Rattle.borsh_c.specs.declared.refusal.NoAnswer.{NoAnswer}
use Rattle.borsh_c.specs.declared.refusal.NoAnswer.TheVariants.{No, Malformed, OutOfMemory, Undecided}

-- the definitions of a container, by their names
abbrev pub Definitions : Type 0
Definitions = BTreeMap (String Global) Definition

-- what may be said of the definitions of a container, and of the name of its root
abbrev pub Saying : Type 1
Saying = Definitions → List ℕ → Type 0

-- the bytes are the encoding of a container of which this holds
abbrev pub About : List ℕ → Saying → Type 0
About bytes P = (c : String Global × Definitions) × (root_and_map.encoding c ≡ Some bytes) × P c.1 (string_bytes c.0)

-- a text that isn't stated by its bytes is cut after so many, so that there is a room in which each one fits
abbrev pub IsShort : List ℕ → Type 0
IsShort text = length text ≤ 1073741824

-- no container decodes from the bytes, and the text says so, and then why
abbrev pub IsMalformed : List ℕ → List ℕ → Type 0
IsMalformed bytes text = (IsDecodable root_and_map true bytes → ⊥) × ((why : List ℕ) × (text ≡ codes "not a schema container: " ++ why) × IsShort why)

-- bytes of which this holds were given
abbrev pub Gives : (List ℕ → Type 0) → List ℕ → ℕ → Type 0
Gives P room needed = (bytes : List ℕ) × P bytes × IsGiven bytes room needed

-- ---- codes

-- the code of each refusal
abbrev pub code_of : NoAnswer → ℕ
code_of (No t) = 1
code_of (Malformed t) = 2
code_of OutOfMemory = 3
code_of (Undecided t) = 5

-- the offset that a refusal tells
abbrev pub told_offset : NoAnswer → Option ℕ
told_offset (No t) = t.offset
told_offset (Malformed t) = None
told_offset OutOfMemory = None
told_offset (Undecided t) = None

-- the text that a refusal tells
abbrev pub told_text : NoAnswer → List ℕ
told_text (No t) = string_bytes t.text
told_text (Malformed t) = string_bytes t
told_text OutOfMemory = codes "out of memory"
told_text (Undecided t) = string_bytes t

-- the refusal is a no, with this offset and this text
abbrev pub Tells : Option ℕ → List ℕ → NoAnswer → Type 0
Tells offset text (No t) = (t.offset ≡ offset) × (string_bytes t.text ≡ text)
Tells offset text (Malformed t) = ⊥
Tells offset text OutOfMemory = ⊥
Tells offset text (Undecided t) = ⊥

-- each code says what is right, and so does what is given with it: a text, or bytes
pub data Answers (schema : List ℕ) (Yes No Undecided : List ℕ → Saying) (code : ℕ) (given : List ℕ) : Type 0 where
  yes : About schema (Yes given) → code ≡ 0 → Answers schema Yes No Undecided code given
  no : About schema (No given) → code ≡ 1 → Answers schema Yes No Undecided code given
  malformed : IsMalformed schema given → code ≡ 2 → Answers schema Yes No Undecided code given
  out_of_memory : given ≡ codes "out of memory" → code ≡ 3 → Answers schema Yes No Undecided code given
  undecided : About schema (Undecided given) → code ≡ 5 → Answers schema Yes No Undecided code given

-- a refusal is right; what a no says depends on the offset and the text that it tells
abbrev pub IsRefused : List ℕ → (Option ℕ → List ℕ → Saying) → (List ℕ → Saying) → NoAnswer → Type 0
IsRefused schema N U (No t) = About schema (N t.offset (string_bytes t.text))
IsRefused schema N U (Malformed t) = IsMalformed schema (string_bytes t)
IsRefused schema N U OutOfMemory = ⊤
IsRefused schema N U (Undecided t) = About schema (U (string_bytes t))

-- ---- what the calls say

-- this holds, and no bytes are given
abbrev pub Alone : ((List ℕ → Option Shape) → List ℕ → Type 0) → List ℕ → Saying
Alone P given m root = P (definitions_in m) root × (given ≡ [])

-- the same whatever the offset
abbrev pub wherever : (List ℕ → Saying) → Option ℕ → List ℕ → Saying
wherever P offset = P

-- of no container
abbrev pub Never : List ℕ → Saying
Never text m root = ⊥

-- words, and a name behind them, if there is one
abbrev pub in_plain : List ℕ × Option (List ℕ) → List ℕ
in_plain = spoken (λ name. name)

-- a reached name breaks a rule, and the text says which
abbrev pub IsInvalid : List ℕ → Saying
IsInvalid text m root = IsSaid in_plain (SaysRules (definitions_in m) root false) text

-- there is no size below 2^64, and the text says why
abbrev pub HasNoSize : List ℕ → Saying
HasNoSize text m root = IsSaid in_plain (SaysSize (definitions_in m) root None) text

-- the text says how the values of each name are written that the root leads to
abbrev pub TellsKinds : List ℕ → Saying
TellsKinds text m root = (ns : List Named) × (parts : List (Vec ℕ Global)) × IsPlanned m root ns parts × TellsNames (forms_in m) ns text

-- the bytes are no member of the root, and there is a fault at the offset, which is told
abbrev pub IsNoMember : List ℕ → Option ℕ → List ℕ → Saying
IsNoMember value None text m root = ⊥
IsNoMember value (Some offset) text m root = (Member (definitions_in m) root value → ⊥) × ((f : Fault) × IsFault (definitions_in m) root value f × (f.offset ≡ offset)) × IsShort text

-- the JSON says these bytes, which are a member of the root, and the elements of its sets and the keys of its maps ascend where their order is known
abbrev pub AreBytesOf : List ℕ → List ℕ → Saying
AreBytesOf json value m root = TextRepresents (forms_in m) root json value

-- the text is JSON that says these bytes, which are a member of the root, its keys in order, with no white space but that of the layout, and where numbers of 64 bits are strings, so is each of them
abbrev pub IsJsonOf : Layout → LongNumbers → List ℕ → List ℕ → Saying
IsJsonOf layout long value text m root = TextRepresents (forms_in m) root text value × IsPrinted layout text × (long ≡ Quoted → HasQuotedNumbers (forms_in m) root text)

-- an offset is told only where the bytes are no member of the root, and is then that of a fault; without one they are a member, and there is a reason why it has no JSON
abbrev pub HasNoJson : List ℕ → Option ℕ → List ℕ → Saying
HasNoJson value None text m root = Member (definitions_in m) root value × ((path : List Step) × (r : Refusal) × RefusesBytes (forms_in m) root value path r) × IsShort text
HasNoJson value (Some offset) text m root = IsNoMember value (Some offset) text m root

-- the offset that an error has
abbrev pub offset_in : JsonError → Option ℕ
offset_in NoJsonRoom = None
offset_in (NoMember f) = Some f.offset
offset_in NoValue = None
offset_in (Ambiguous name) = None
offset_in (NotJson offset) = Some offset
offset_in (Refused path refusal) = None

-- the error is no want of memory, and no name is undecided
abbrev pub IsNo : JsonError → Type 0
IsNo NoJsonRoom = ⊥
IsNo (NoMember f) = ⊤
IsNo NoValue = ⊤
IsNo (Ambiguous name) = ⊥
IsNo (NotJson offset) = ⊤
IsNo (Refused path refusal) = ⊤

-- there is a reason why the text says no value, which has the offset
abbrev pub SaysNone : List ℕ → Option ℕ → Definitions → List ℕ → Type 0
SaysNone json offset m root =
    (e : JsonError) × IsNo e × (offset ≡ offset_in e) × IsTextReason (definitions_in m) root json e × ShowsNoValue (forms_in m) root json e

-- the JSON isn't UTF-8, or there is a reason why it says no value
abbrev pub IsNoText : List ℕ → Option ℕ → List ℕ → Saying
IsNoText json offset text m root = IsShort text × (((offset ≡ None) × (IsUtf8 json → ⊥)) ⊎ SaysNone json offset m root)

-- that a name is undecided
abbrev pub unclear_text : List ℕ → List ℕ
unclear_text name = codes "`" ++ (name ++ codes "` is ambiguous")

-- the container breaks a rule, or is ambiguous, and the text names what is undecided
abbrev pub IsUnclear : List ℕ → Saying
IsUnclear text m root = (IsValid (definitions_in m) root → IsUnambiguous (definitions_in m) root → ⊥) × ((x : List ℕ) × IsUndecided (definitions_in m) root x × (text ≡ unclear_text x))

-- ---- the outcomes of the calls

-- code 0: the container is valid; code 1: it isn't
abbrev pub AnswersValid : List ℕ → ℕ → List ℕ → Type 0
AnswersValid schema = Answers schema (Alone IsValid) IsInvalid Never

-- code 0: the number is the greatest size; code 1: there is none below 2^64
abbrev pub AnswersSize : List ℕ → ℕ → ℕ → List ℕ → Type 0
AnswersSize schema most = Answers schema (Alone (λ C root. MaxSize C root most)) HasNoSize Never

-- code 0: the text says how the values of names are written
abbrev pub AnswersNames : List ℕ → ℕ → List ℕ → Type 0
AnswersNames schema = Answers schema TellsKinds Never Never

-- code 0: the bytes are a member of the root; code 1: they aren't, and the offset is a fault's; code 5: the container breaks a rule or is ambiguous
abbrev pub AnswersMember : List ℕ → List ℕ → Option ℕ → ℕ → List ℕ → Type 0
AnswersMember schema value offset = Answers schema (Alone (λ C root. Member C root value)) (IsNoMember value offset) IsUnclear

-- code 0: JSON of the value is given, on one line or in several, with quoted numbers or not; undecided only where the container breaks a rule or is ambiguous
abbrev pub AnswersJson : List ℕ → List ℕ → (compact quoted : Bool) → Option ℕ → ℕ → List ℕ → Type 0
AnswersJson schema value compact quoted offset = Answers schema (IsJsonOf (layout_if compact) (numbers_if quoted) value) (HasNoJson value offset) IsUnclear

-- code 0: the bytes of the JSON are given; undecided only where the container breaks a rule or is ambiguous
abbrev pub AnswersBytes : List ℕ → List ℕ → Option ℕ → ℕ → List ℕ → Type 0
AnswersBytes schema json offset = Answers schema (AreBytesOf json) (IsNoText json offset) IsUnclear
