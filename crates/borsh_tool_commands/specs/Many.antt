-- What is written for many values.
use Rattle.std.specs.Prelude.{◌≡◌, ◌⊎◌, ⊤, ℕ, ◌==◌, ◌≤◌, All, Bool, true, false, not, List, [], ◌∷◌, ◌++◌, drop, length, take, flat_map, if◌then◌else◌, codes, decimal, Option, None, Some, IfSome, Result, Ok, Err, MatchResult, IfOk, OnOk, IfErr, IsUtf8, String, Vec}
use Rattle.std.specs.Borrow.{Bor}
use Rattle.std.specs.Io.KnownBytes.{Consumes}
use Rattle.std.specs.Str.{IsTrimAscii, bytes_eq}
use Rattle.std.specs.Global.{Global}
use Rattle.hex.specs.Hex.{decode_of}
use Rattle.hex.specs.declared.error.FromHexError.{FromHexError}
use Rattle.borsh_io.specs.Sink.{WriterModel}
use Rattle.borsh_io.specs.Stream.{ReaderState}
use Rattle.borsh_io.specs.declared.error.Error.{Error}
use Rattle.borsh_walks.specs.Container.{Shape, Member}
use Rattle.borsh_plan.specs.Plan.{definitions_of, map_of, root_of}
use Rattle.borsh_values.specs.Membership.{BeginsWith, IsUndecided}
use Rattle.borsh_io.specs.Buffered.{IsUnread, held, reader_of}
use Rattle.borsh_values.specs.Records.{IsFirst, ahead, source_of}
use Rattle.borsh_io.specs.declared.buffered.Buffered.{Buffered}
use Rattle.borsh_values.specs.declared.records.Records.{Records}
use Rattle.borsh_values.specs.declared.records.RecordError.{RecordError}
use Rattle.borsh_values.specs.declared.records.RecordError.TheVariants.{NoMember, CutShort, TooLong, EmptyValue, Ambiguous, Reader, OutOfMemory}
use Rattle.borsh_plan.specs.declared.plan.Plan.{Plan}
use Rattle.borsh_json.specs.Ascii.{IsInLine, IsPlain}
use Rattle.borsh_json.specs.declared.output.Layout.TheVariants.{Compact}
use Rattle.borsh_tool_commands.specs.declared.command.Action.{Action}
use Rattle.borsh_tool_commands.specs.declared.command.Action.TheVariants.{Decode, Encode, Member as AskMember, Show}
use Rattle.borsh_tool_commands.specs.declared.command.Form.{Form}
use Rattle.borsh_tool_commands.specs.declared.command.Form.TheVariants.{Records as AsRecords, Lines as AsLines}
use Rattle.borsh_tool_commands.specs.declared.failure.Failure.{Failure}
use Rattle.borsh_tool_commands.specs.declared.failure.Failure.TheVariants.{NoCommand, NotValue, Unwritten, OutOfMemory as NoMemory}
use Rattle.borsh_tool_commands.specs.declared.many.Wanted.{Wanted}
use Rattle.borsh_tool_commands.specs.declared.many.Wanted.TheVariants.{Json, Digits, Bytes}
use Rattle.borsh_tool_commands.specs.Answers.{line_of}
use Rattle.borsh_tool_commands.specs.Failures.{IsFailure, IsStop}
use Rattle.borsh_tool_commands.specs.Json.{HasNoJson, IsJsonInOrder, IsJsonLine, SaysNone}
use Rattle.borsh_tool_commands.specs.Lines.{IsFirstLine, IsLong}
use Rattle.borsh_tool_commands.specs.Plain.{digits}
use Rattle.borsh_tool_commands.specs.Printed.{printed}
use Rattle.borsh_tool_commands.specs.declared.answers.TextAnswer.{TextAnswer}

-- ---- what is written

-- the writer failed, or was full
abbrev pub IsWriteFailure : Failure → Type 0
IsWriteFailure (Unwritten e) = ⊤
IsWriteFailure f = ⊥

abbrev pub IsUnwritten : {A : Type 0} → Result A Failure → Type 0
IsUnwritten (Ok v) = ⊥
IsUnwritten (Err f) = IsWriteFailure f

-- what was made was written and is kept no more; or a beginning of it, and the rest is lost, only where the writer failed
pub record WritesMade {W A : Type 0} (w : WriterModel W) (old new : W) (before after : List ℕ) (result : Result A Failure) : Type 0 where
  pub written : List ℕ
  pub lost : List ℕ
  pub wrote : w.wrote old new written
  pub split : before ≡ written ++ (lost ++ after)
  pub whole : (lost ≡ []) ⊎ (IsUnwritten result × (after ≡ []))

-- what was written, and what was made and is still kept, is an output that goes with the result; some is lost only where the writer failed
pub record WritesAnswers {W : Type 0} (IsOutput : List ℕ → Result Bool Failure → Type 0) (w : WriterModel W) (old new : W) (made : List ℕ) (result : Result Bool Failure) : Type 0 where
  pub written : List ℕ
  pub lost : List ℕ
  pub wrote : w.wrote old new written
  pub output : IsOutput (written ++ (lost ++ made)) result
  pub whole : (lost ≡ []) ⊎ (IsUnwritten result × (made ≡ []))

-- ---- one answer after another

-- the text of each of these, in this order, and nothing else
abbrev pub AreAnswers : (List ℕ → List ℕ → Type 0) → List (List ℕ) → List ℕ → Type 0
AreAnswers Answers [] out = out ≡ []
AreAnswers Answers (p ∷ ps) out = (text : List ℕ) × (others : List ℕ) × Answers p text × (out ≡ text ++ others) × AreAnswers Answers ps others

-- the bytes begin with these pieces, one after another, and others are left
abbrev pub BeginWith : (List ℕ → List ℕ → List ℕ → Type 0) → List (List ℕ) → List ℕ → List ℕ → Type 0
BeginWith IsFirstOf [] bytes left = bytes ≡ left
BeginWith IsFirstOf (p ∷ ps) bytes left = (more : List ℕ) × IsFirstOf p bytes more × BeginWith IsFirstOf ps more left

-- the output answers the first pieces of the bytes, and after a success all of them, which is a yes; after a failure there is a reason to stop at those that are left. The bytes are those of a reader, if it knows them
pub record AnswersEach (IsFirstOf : List ℕ → List ℕ → List ℕ → Type 0) (Answers : List ℕ → List ℕ → Type 0) (Stops : List ℕ → Failure → Type 0) (bytes : Option (List ℕ)) (out : List ℕ) (result : Result Bool Failure) : Type 0 where
  pub pieces : List (List ℕ)
  pub left : List ℕ
  pub answers : AreAnswers Answers pieces out
  pub first : IfSome bytes (λ xs. BeginWith IsFirstOf pieces xs left)
  pub all : IfOk result (λ yes. (yes ≡ true) × (left ≡ []))
  pub stops : IfErr result (λ f. Stops left f)

-- ---- the answer to a line

-- the bytes that digits say, with or without `0x` in front; none for `-`
abbrev pub unmarked : List ℕ → List ℕ
unmarked text = if bytes_eq (take 2 text) (codes "0x") then drop 2 text else text

abbrev pub said_by : List ℕ → Result (List ℕ) FromHexError
said_by text = if bytes_eq text (codes "-") then Ok [] else decode_of (unmarked text)

-- the digits of bytes as a line; `-` for none
abbrev pub digits_line : List ℕ → List ℕ
digits_line [] = line_of (codes "-")
digits_line (b ∷ bs) = line_of (flat_map digits (b ∷ bs))

-- one line of printable ASCII that says why
abbrev pub IsErrorLine : List ℕ → Type 0
IsErrorLine out = (why : List ℕ) × All IsPlain why × All IsInLine why × (out ≡ codes "{\"error\":" ++ (why ++ line_of (codes "}")))

module _ (l : Plan) where
  -- the answer to a line: the JSON of the bytes that its digits say; the digits of the bytes that it is JSON of; or these bytes
  abbrev pub IsLineAnswer : Wanted → List ℕ → List ℕ → Type 0
  IsLineAnswer Json text out = (bytes : List ℕ) × (said_by text ≡ Ok bytes) × IsJsonLine (map_of l) (root_of l) Compact bytes out
  IsLineAnswer Digits text out = (bytes : List ℕ) × IsJsonInOrder (map_of l) (root_of l) text bytes × (out ≡ digits_line bytes)
  IsLineAnswer Bytes text out = IsJsonInOrder (map_of l) (root_of l) text out

  -- the bytes are no text, or there is a reason why it says no value
  abbrev pub SaysNoValue : List ℕ → Type 0
  SaysNoValue text = (IsUtf8 text → ⊥) ⊎ SaysNone (map_of l) (root_of l) text

  -- why a line has no such answer
  abbrev pub IsRefusedLine : Wanted → List ℕ → Type 0
  IsRefusedLine Json text = ((e : FromHexError) × (said_by text ≡ Err e)) ⊎ ((bytes : List ℕ) × (said_by text ≡ Ok bytes) × HasNoJson (map_of l) (root_of l) bytes)
  IsRefusedLine Digits text = SaysNoValue text
  IsRefusedLine Bytes text = SaysNoValue text

  -- a line has such an answer, or there is a reason why not
  abbrev pub AnswersText : Wanted → (path text : List ℕ) → Result (Vec ℕ Global) Failure → Type 0
  AnswersText wanted path text result = MatchResult result (λ out. IsLineAnswer wanted text out.items) (IsFailure path ⊥ (IsRefusedLine wanted text) ⊥)

  -- the answer to a line, without white space around it; or, if lines may be refused, an error line for one that has none
  abbrev pub AnswersLine : Wanted → Bool → List ℕ → List ℕ → Type 0
  AnswersLine wanted lenient line out = (text : List ℕ) × IsTrimAscii line text × (IsLineAnswer wanted text out ⊎ ((lenient ≡ true) × IsRefusedLine wanted text × IsErrorLine out))

  -- a line may not be refused, and has no such answer
  abbrev pub HasNoAnswer : Wanted → Bool → List ℕ → Type 0
  HasNoAnswer wanted lenient line = (lenient ≡ false) × ((text : List ℕ) × IsTrimAscii line text × IsRefusedLine wanted text)

-- ---- how many values there are

abbrev pub count_text : ℕ → List ℕ
count_text n = decimal n ++ (if n == 1 then codes " value" else codes " values")

-- no value begins the bytes, of which there are some unless there is no value at all
abbrev pub NoValueBegins : (List ℕ → Option Shape) → List ℕ → List ℕ → Type 0
NoValueBegins C root bytes = (BeginsWith C root bytes → ⊥) × (bytes ≡ [] → (v : List ℕ) → Member C root v → ⊥)

-- how many values the bytes are; or, as a no, that behind some values none begins
pub data IsCount (C : List ℕ → Option Shape) (root : List ℕ) (bytes : Option (List ℕ)) (yes : Bool) (out : List ℕ) : Type 0 where
  counted : (vs : List (List ℕ)) → IfSome bytes (λ xs. BeginWith (IsFirst C root) vs xs []) → yes ≡ true → out ≡ line_of (count_text (length vs)) → IsCount C root bytes yes out
  stopped : (vs : List (List ℕ)) (left why : List ℕ) → IfSome bytes (λ xs. BeginWith (IsFirst C root) vs xs left) → NoValueBegins C root left → yes ≡ false → out ≡ line_of (codes "no member: " ++ why) → IsCount C root bytes yes out

-- ---- why a command stops

-- the reader failed by this error, at some time, or an allocation for its bytes did
abbrev pub FailsBy : {R : Type 0} → (R → ReaderState) → Error → Type 0
FailsBy {R} state e = (before : R) × (after : R) × IsUnread (state before) (state after) e

-- the bytes that a reader has left, if it knows them
abbrev pub rest_of : Option (List ℕ) → List ℕ
rest_of None = []
rest_of (Some bytes) = bytes

-- how many bytes a value has at most
abbrev pub most_bytes : ℕ
most_bytes = 67108864

module _ (C : List ℕ → Option Shape) (root : List ℕ) where
  -- no values are taken: the root has the empty value, or is undecided
  abbrev pub IsNoRoot : Type 0
  IsNoRoot = Member C root [] ⊎ ((x : List ℕ) × IsUndecided C root x)

  -- whether a value begins the bytes isn't answered: none has its end within so many bytes, or there is no such root
  abbrev pub IsUncounted : List ℕ → Type 0
  IsUncounted left = ((most_bytes ≤ length left) × (BeginsWith C root (take most_bytes left) → ⊥)) ⊎ IsNoRoot

-- there is no value
abbrev pub IsNotValue : Failure → Type 0
IsNotValue (NotValue path text) = ⊤
IsNotValue f = ⊥

-- the error isn't the reader's, and no failed allocation
abbrev pub IsValueError : RecordError → Type 0
IsValueError (NoMember offset f) = ⊤
IsValueError (CutShort offset f) = ⊤
IsValueError (TooLong offset) = ⊤
IsValueError EmptyValue = ⊤
IsValueError (Ambiguous x) = ⊤
IsValueError (Reader e) = ⊥
IsValueError OutOfMemory = ⊥

-- the bytes stop being values
abbrev pub EndsValues : RecordError → Type 0
EndsValues (NoMember offset f) = ⊤
EndsValues (CutShort offset f) = ⊤
EndsValues (TooLong offset) = ⊥
EndsValues EmptyValue = ⊥
EndsValues (Ambiguous x) = ⊥
EndsValues (Reader e) = ⊥
EndsValues OutOfMemory = ⊥

-- a no where the bytes stop being values, and else a failure that goes with the error
abbrev pub IsEnded : (path : List ℕ) → RecordError → Result TextAnswer Failure → Type 0
IsEnded path e result = MatchResult result
    (λ a. EndsValues e × (a.is_yes ≡ false) × ((why : List ℕ) × (printed a.text ≡ line_of (codes "no member: " ++ why))))
    (IsStop path (λ r. e ≡ Reader r) (IsValueError e × (EndsValues e → ⊥)) ⊥)

-- the same failure, with another text where it has one, or a failed allocation
abbrev pub IsPlaced : Failure → Failure → Type 0
IsPlaced failure result = (result ≡ NoMemory) ⊎ ((result ≡ failure) ⊎ ((path : Bor (List ℕ)) × (text : String Global) × (other : String Global) × (failure ≡ NotValue path text) × (result ≡ NotValue path other)))

-- an error line where there is no value; else the failure, or a failed allocation
abbrev pub IsRefusedAs : Failure → Result (Vec ℕ Global) Failure → Type 0
IsRefusedAs failure result = MatchResult result (λ line. IsErrorLine line.items × IsNotValue failure) (λ f. (f ≡ NoMemory) ⊎ ((f ≡ failure) × (IsNotValue failure → ⊥)))

-- no value is taken of bytes that are ahead, those that were read and those that are left: none begins there, or that isn't answered
pub record NoneNext (C : List ℕ → Option Shape) (root : List ℕ) (before after : ReaderState) (ahead : List ℕ) : Type 0 where
  pub read : List ℕ
  pub taken : Consumes before.bytes after.bytes read
  pub none : NoValueBegins C root ((ahead ++ read) ++ rest_of after.bytes) ⊎ IsUncounted C root ((ahead ++ read) ++ rest_of after.bytes)

-- the first line of such bytes is too long
pub record LongNext (before after : ReaderState) (ahead : List ℕ) : Type 0 where
  pub read : List ℕ
  pub taken : Consumes before.bytes after.bytes read
  pub long : IsLong ((ahead ++ read) ++ rest_of after.bytes)

module _ (unread : Error → Type 0) (path : List ℕ) (l : Plan) where
  -- no value begins the bytes, or that isn't answered, or the first one has no JSON
  abbrev pub StopsAtValue : List ℕ → Failure → Type 0
  StopsAtValue left = IsStop path unread (NoValueBegins (definitions_of l) (root_of l) left ⊎ (IsUncounted (definitions_of l) (root_of l) left ⊎ ((value : List ℕ) × (more : List ℕ) × IsFirst (definitions_of l) (root_of l) value left more × HasNoJson (map_of l) (root_of l) value))) ⊥

  -- the first line, of bytes that are known, has no answer, or is too long; or another fact holds
  abbrev pub StopsAtLine : Wanted → Bool → Type 0 → Option (List ℕ) → List ℕ → Failure → Type 0
  StopsAtLine wanted lenient other bytes left = IsStop path unread (other ⊎ ((line : List ℕ) × (more : List ℕ) × IfSome bytes (λ _. IsFirstLine line left more) × HasNoAnswer l wanted lenient line)) (IsLong left)

  -- whether a value begins the bytes isn't answered, behind some values of the reader's bytes
  abbrev pub StopsCounting : Option (List ℕ) → Failure → Type 0
  StopsCounting bytes = IsStop path unread ((values : List (List ℕ)) × (left : List ℕ) × IfSome bytes (λ xs. BeginWith (IsFirst (definitions_of l) (root_of l)) values xs left) × IsUncounted (definitions_of l) (root_of l) left) ⊥

module _ {R : Type 0} (state : R → ReaderState) (path : List ℕ) where
  -- why there is no next value
  abbrev pub StopsNext : Plan → Records R → Records R → Failure → Type 0
  StopsNext l old new = IsStop path (FailsBy state) (NoneNext (definitions_of l) (root_of l) (state (source_of old)) (state (source_of new)) (ahead old)) ⊥

  -- why there is no next line
  abbrev pub StopsNextLine : Buffered R → Buffered R → Failure → Type 0
  StopsNextLine old new = IsStop path (FailsBy state) ⊥ (LongNext (state (reader_of old)) (state (reader_of new)) (held old))

-- ---- each command

-- the output and the result of a command over many values, by their path, their plan and bytes. What `encode` writes one after another can be read so, since no value is without bytes; `show` takes one value
abbrev pub AnswersMany : Action → Form → Bool → (Error → Type 0) → (path : List ℕ) → Plan → Option (List ℕ) → List ℕ → Result Bool Failure → Type 0
AnswersMany Decode AsRecords strict unread path l bytes out result = AnswersEach (IsFirst (definitions_of l) (root_of l)) (IsJsonLine (map_of l) (root_of l) Compact) (StopsAtValue unread path l) bytes out result
AnswersMany Decode AsLines strict unread path l bytes out result = AnswersEach IsFirstLine (AnswersLine l Json (not strict)) (StopsAtLine unread path l Json (not strict) ⊥ bytes) bytes out result
AnswersMany Encode AsRecords strict unread path l bytes out result = AnswersEach IsFirstLine (AnswersLine l Bytes false) (StopsAtLine unread path l Bytes false (IsNoRoot (definitions_of l) (root_of l)) bytes) bytes out result × OnOk result (Member (definitions_of l) (root_of l) [] → ⊥)
AnswersMany Encode AsLines strict unread path l bytes out result = AnswersEach IsFirstLine (AnswersLine l Digits (not strict)) (StopsAtLine unread path l Digits (not strict) ⊥ bytes) bytes out result
AnswersMany AskMember form strict unread path l bytes out result = MatchResult result (λ yes. IsCount (definitions_of l) (root_of l) bytes yes out) (StopsCounting unread path l bytes)
AnswersMany Show form strict unread path l bytes out result = MatchResult result (λ _. ⊥) (λ f. IsWriteFailure f ⊎ (f ≡ NoCommand))
