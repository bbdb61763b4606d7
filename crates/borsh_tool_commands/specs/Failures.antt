-- When each failure may be returned.
use Rattle.std.specs.Prelude.{◌≡◌, ⊤, ℕ, List, [], Option, IsUtf8, String}
use Rattle.std.specs.BTreeMap.{BTreeMap}
use Rattle.std.specs.Global.{Global}
use Rattle.borsh_io.specs.declared.error.Error.{Error}
use Rattle.borsh_walks.specs.Container.{Shape}
use Rattle.borsh_values.specs.Membership.{IsUndecided}
use Rattle.borsh_walks.specs.declared.definition.Definition.{Definition}
use Rattle.borsh_json.specs.Errors.{IsNoRowsReason}
use Rattle.borsh_tool_commands.specs.declared.failure.Failure.{Failure}
use Rattle.borsh_tool_commands.specs.declared.failure.Failure.TheVariants.{NoCommand, Unreadable, NotHexadecimal, NotContainer, NotValue, NotText, TwoInputs, RawOnTerminal, WrongUse, Unread, Unwritten, LongLine, NotType, OutOfMemory}
use Rattle.borsh_tool_commands.specs.declared.values.Schema.{Schema}
use Rattle.borsh_tool_commands.specs.Json.{HasNoJson, HasReason, SaysNone}
use Rattle.borsh_tool_commands.specs.Sent.{HasNoSchemaJson, IsContainer, IsSent}

-- an allocation failed; or the failure is of this path, and is one of three kinds, each only where a fact holds that goes with it
abbrev pub IsFailure : (path : List ℕ) (no_container no_value no_text : Type 0) → Failure → Type 0
IsFailure path no_container no_value no_text NoCommand = ⊥
IsFailure path no_container no_value no_text (Unreadable p e) = ⊥
IsFailure path no_container no_value no_text (NotHexadecimal p e) = ⊥
IsFailure path no_container no_value no_text (NotContainer p e) = (p.now ≡ path) × no_container
IsFailure path no_container no_value no_text (NotValue p text) = (p.now ≡ path) × no_value
IsFailure path no_container no_value no_text (NotText p) = (p.now ≡ path) × no_text
IsFailure path no_container no_value no_text TwoInputs = ⊥
IsFailure path no_container no_value no_text RawOnTerminal = ⊥
IsFailure path no_container no_value no_text (WrongUse e) = ⊥
IsFailure path no_container no_value no_text (Unread p e) = ⊥
IsFailure path no_container no_value no_text (Unwritten e) = ⊥
IsFailure path no_container no_value no_text (LongLine p) = ⊥
IsFailure path no_container no_value no_text (NotType t text) = ⊥
IsFailure path no_container no_value no_text OutOfMemory = ⊤

-- an allocation or the writer failed; or, of this path, the reader by an error, or there is no value or too long a line, each only where a fact holds that goes with it
abbrev pub IsStop : (path : List ℕ) (unread : Error → Type 0) (no_value long_line : Type 0) → Failure → Type 0
IsStop path unread no_value long_line NoCommand = ⊥
IsStop path unread no_value long_line (Unreadable p e) = ⊥
IsStop path unread no_value long_line (NotHexadecimal p e) = ⊥
IsStop path unread no_value long_line (NotContainer p e) = ⊥
IsStop path unread no_value long_line (NotValue p text) = (p.now ≡ path) × no_value
IsStop path unread no_value long_line (NotText p) = ⊥
IsStop path unread no_value long_line TwoInputs = ⊥
IsStop path unread no_value long_line RawOnTerminal = ⊥
IsStop path unread no_value long_line (WrongUse e) = ⊥
IsStop path unread no_value long_line (Unread p e) = (p.now ≡ path) × unread e
IsStop path unread no_value long_line (Unwritten e) = ⊤
IsStop path unread no_value long_line (LongLine p) = (p.now ≡ path) × long_line
IsStop path unread no_value long_line (NotType t text) = ⊥
IsStop path unread no_value long_line OutOfMemory = ⊤

-- ---- containers

-- an allocation failed, and nothing else
abbrev pub IsNoMemory : Failure → Type 0
IsNoMemory = IsFailure [] ⊥ ⊥ ⊥

-- no container only if the bytes are the encoding of none
abbrev pub IsNoContainer : List ℕ → List ℕ → Failure → Type 0
IsNoContainer path bytes = IsFailure path (IsContainer bytes → ⊥) ⊥ ⊥

-- the bytes begin with the encoding of a container
abbrev pub BeginsWithContainer : List ℕ → Type 0
BeginsWithContainer bytes = (s : Schema) × (value : List ℕ) × IsSent s value bytes

-- no container only if the bytes begin with none
abbrev pub IsNoContainerInFront : List ℕ → List ℕ → Failure → Type 0
IsNoContainerInFront path bytes = IsFailure path (BeginsWithContainer bytes → ⊥) ⊥ ⊥

-- no container only if the bytes are the encoding of none, and no JSON only if they are that of one that has none
abbrev pub IsNoContainerJson : List ℕ → List ℕ → Failure → Type 0
IsNoContainerJson path bytes = IsFailure path (IsContainer bytes → ⊥) (IsContainer bytes × HasNoSchemaJson bytes) ⊥

-- ---- values

module _ (map : BTreeMap (String Global) Definition) (root path : List ℕ) where
  -- no JSON only if the bytes have none
  abbrev pub IsJsonFailure : List ℕ → Failure → Type 0
  IsJsonFailure bytes = IsFailure path ⊥ (HasNoJson map root bytes) ⊥

  -- no text only if the bytes aren't UTF-8, and no value only if they are a text that says none
  abbrev pub IsNoValue : List ℕ → Failure → Type 0
  IsNoValue json = IsFailure path ⊥ (IsUtf8 json × SaysNone map root json) (IsUtf8 json → ⊥)

module _ (C : List ℕ → Option Shape) (root path : List ℕ) where
  -- no rows only if the bytes are no member, or the definitions are undecided, or they are a member, which may be refused as too deep
  abbrev pub IsNotShown : List ℕ → Failure → Type 0
  IsNotShown bytes = IsFailure path ⊥ (HasReason (IsNoRowsReason C root bytes)) ⊥

  -- neither yes nor no only if a definition is ambiguous or breaks a rule of widths
  abbrev pub IsNoAnswer : Failure → Type 0
  IsNoAnswer = IsFailure path ⊥ ((x : List ℕ) × IsUndecided C root x) ⊥
