-- Why bytes have no JSON, and why a text is no value.
use Rattle.std.specs.Prelude.{◌≡◌, ◌⊎◌, ⊤, ℕ, suc, ◌-◌, ◌<◌, List, [], ◌∷◌, ◌++◌, Option, None, IsSome}
use Rattle.json.specs.{Token.{Token, begin_object, end_object, begin_array, end_array}, Lex.{tokens}, Json.{document, max_depth}}
use Rattle.borsh_walks.specs.Container.{Shape, Member}
use Rattle.borsh_values.specs.{Membership.{IsUndecided, IsFault}, declared.faults.Path.{Path}}
use Rattle.borsh_json.specs.{declared.error.JsonError.{JsonError}, declared.error.JsonError.TheVariants.{OutOfMemory, NoMember, NoValue, Ambiguous, NotJson, Refused}, declared.error.PartError.{PartError}, declared.error.PartError.TheVariants.{OutOfMemory as NoMemory, Refused as RefusedPart}, declared.error.Refusal.{Refusal}, declared.error.Refusal.TheVariants.{TooDeep, RepeatedName, EmptyElements, NotBool, NotUtf8, Zero, NotNumber, Descends, Expected, MissingField, UnknownName, RepeatedKey, Undefined}}

-- ---- which refusals a call may return

-- a value whose parts nest too deep
abbrev pub IsTooDeep : Refusal → Type 0
IsTooDeep TooDeep = ⊤
IsTooDeep refusal = ⊥

-- a value that can't be written as JSON: of its bytes and definitions, and not of any text
abbrev pub IsUnwritable : Refusal → Type 0
IsUnwritable TooDeep = ⊤
IsUnwritable (RepeatedName name) = ⊤
IsUnwritable EmptyElements = ⊤
IsUnwritable NotBool = ⊤
IsUnwritable NotUtf8 = ⊤
IsUnwritable Zero = ⊤
IsUnwritable NotNumber = ⊤
IsUnwritable Descends = ⊤
IsUnwritable refusal = ⊥

-- JSON that can't be read as a value: of a text and the definitions, and not of any bytes
abbrev pub IsUnreadable : Refusal → Type 0
IsUnreadable TooDeep = ⊤
IsUnreadable (RepeatedName name) = ⊤
IsUnreadable EmptyElements = ⊤
IsUnreadable Descends = ⊤
IsUnreadable (Expected wanted) = ⊤
IsUnreadable MissingField = ⊤
IsUnreadable (UnknownName name) = ⊤
IsUnreadable (RepeatedKey name) = ⊤
IsUnreadable (Undefined name) = ⊤
IsUnreadable refusal = ⊥

-- the error of a part, as that of the whole value
abbrev pub error_of : PartError → JsonError
error_of NoMemory = OutOfMemory
error_of (RefusedPart path refusal) = Refused path refusal

-- ---- errors of whole calls

-- how many arrays and objects are open behind a token, where so many are in front of it
abbrev pub open_after : ℕ → Token → ℕ
open_after n begin_object = suc n
open_after n end_object = n - 1
open_after n begin_array = suc n
open_after n end_array = n - 1
open_after n t = n

-- and behind several
abbrev pub open_behind : ℕ → List Token → ℕ
open_behind n [] = n
open_behind n (t ∷ ts) = open_behind (open_after n t) ts

-- behind some of a text's tokens more than 128 arrays and objects are open
abbrev pub OpensTooMany : List ℕ → Type 0
OpensTooMany text = (front : List Token) × (rest : List Token) × (tokens text ≡ front ++ rest) × (max_depth < open_behind 0 front)

-- the path is the root's, and the text nests too deep, whether it is JSON or not
abbrev pub IsDeepText : List ℕ → List ℕ → Path → Type 0
IsDeepText root text path = (path.root.now ≡ root) × (path.steps.items ≡ []) × OpensTooMany text

-- the error may be returned for a text that is no JSON: an allocation failed, or the text is wrong at a byte or nests too deep
abbrev pub TellsNoJson : List ℕ → List ℕ → JsonError → Type 0
TellsNoJson root text OutOfMemory = ⊤
TellsNoJson root text (NotJson offset) = ⊤
TellsNoJson root text (Refused path refusal) = (refusal ≡ TooDeep) × IsDeepText root text path
TellsNoJson root text e = ⊥

-- a text is refused so: it is JSON that can't be read; or its tokens open too many arrays and objects
abbrev pub IsTextRefusal : List ℕ → List ℕ → Path → Refusal → Type 0
IsTextRefusal root text path TooDeep = IsSome (document text) ⊎ IsDeepText root text path
IsTextRefusal root text path refusal = IsSome (document text) × IsUnreadable refusal

module _ (C : List ℕ → Option Shape) (root : List ℕ) where
  -- the error is a true reason why a call has no answer for the bytes: they are no member of the root, or undecided, or a member that is refused in one of these ways
  abbrev pub IsReason : (Refusal → Type 0) → List ℕ → JsonError → Type 0
  IsReason May bytes OutOfMemory = ⊤
  IsReason May bytes (NoMember f) = (Member C root bytes → ⊥) × IsFault C root bytes f
  IsReason May bytes NoValue = ⊥
  IsReason May bytes (Ambiguous x) = IsUndecided C root x.now
  IsReason May bytes (NotJson offset) = ⊥
  IsReason May bytes (Refused path refusal) = Member C root bytes × May refusal

  -- why the bytes have no JSON
  abbrev pub IsNoJsonReason : List ℕ → JsonError → Type 0
  IsNoJsonReason = IsReason IsUnwritable

  -- why the bytes aren't known to be a member: no part of a member is refused
  abbrev pub IsNoMemberReason : List ℕ → JsonError → Type 0
  IsNoMemberReason = IsReason (λ _. ⊥)

  -- why the bytes have no rows: a member has them unless its parts nest too deep
  abbrev pub IsNoRowsReason : List ℕ → JsonError → Type 0
  IsNoRowsReason = IsReason IsTooDeep

  -- the error is a true reason why the text says no value of the root: it is no JSON, or the definitions are undecided, or a part of it is refused
  abbrev pub IsTextReason : List ℕ → JsonError → Type 0
  IsTextReason text OutOfMemory = ⊤
  IsTextReason text (NoMember f) = ⊥
  IsTextReason text NoValue = IsSome (document text)
  IsTextReason text (Ambiguous x) = IsSome (document text) × IsUndecided C root x.now
  IsTextReason text (NotJson offset) = document text ≡ None
  IsTextReason text (Refused path refusal) = IsTextRefusal root text path refusal
