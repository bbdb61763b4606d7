-- What each command replies.
use Rattle.std.specs.Prelude.{◌≡◌, ◌⊎◌, ⊤, ℕ, Bool, true, List, [], ◌++◌, Result, IfOk, IfErr, flat_map, if◌then◌else◌, string_bytes}
use Rattle.borsh_io.specs.Sink.{WriterModel}
use Rattle.borsh_walks.specs.Definitions.{definitions_in}
use Rattle.borsh_tool_commands.specs.declared.command.Action.{Action}
use Rattle.borsh_tool_commands.specs.declared.command.Action.TheVariants.{Decode, Encode, Member as AskMember, Show}
use Rattle.borsh_tool_commands.specs.declared.command.ValueRequest.{ValueRequest}
use Rattle.borsh_tool_commands.specs.declared.failure.Failure.{Failure}
use Rattle.borsh_tool_commands.specs.declared.failure.Failure.TheVariants.{NoCommand}
use Rattle.borsh_tool_commands.specs.declared.replies.Reply.{Reply}
use Rattle.borsh_tool_commands.specs.declared.values.Schema.{Schema}
use Rattle.borsh_tool_commands.specs.Answers.{AnswersMember, line_of}
use Rattle.borsh_tool_commands.specs.Failures.{IsNoAnswer, IsJsonFailure, IsNoValue}
use Rattle.borsh_tool_commands.specs.Items.{AreItems}
use Rattle.borsh_texts.specs.declared.printing.Items.{Items}
use Rattle.borsh_tool_commands.specs.Json.{HasQuotedLine, IsJsonLine}
use Rattle.borsh_json.specs.Printed.{layout_if}
use Rattle.borsh_tool_commands.specs.Many.{IsWriteFailure}
use Rattle.borsh_tool_commands.specs.Plain.{digits}
use Rattle.borsh_tool_commands.specs.Sent.{EncodesJson, IsContainer, IsSchemaJson, IsSent}

-- bytes, or a line of their digits if digits are wanted
abbrev pub in_digits : Bool → List ℕ → List ℕ
in_digits wanted bytes = if wanted then line_of (flat_map digits bytes) else bytes

-- whether the answer is yes, and what is printed: of `decode` JSON, with strings for numbers of 64 bits if these are quoted, and a line feed, of `encode` the bytes or their digits, of `member` its line; `show` writes as it goes
abbrev pub Replies : Action → ValueRequest → Schema → List ℕ → Bool → List ℕ → Type 0
Replies Decode r s value is_yes out = (is_yes ≡ true) × IsJsonLine s.definitions (string_bytes s.root) (layout_if r.is_compact) value out × (r.has_quoted_numbers ≡ true → HasQuotedLine s.definitions (string_bytes s.root) out)
Replies Encode r s value is_yes out = (is_yes ≡ true) × ((sent : List ℕ) × EncodesJson r.with_schema s value sent × (out ≡ in_digits r.is_hex sent))
Replies AskMember r s value is_yes out = AnswersMember s.definitions (string_bytes s.root) value r.is_strict is_yes out
Replies Show r s value is_yes out = ⊥

-- why there is no reply: of this path, by the command
abbrev pub IsNoReply : Action → Schema → (path value : List ℕ) → Failure → Type 0
IsNoReply Decode s path value f = IsJsonFailure s.definitions (string_bytes s.root) path value f
IsNoReply Encode s path value f = IsNoValue s.definitions (string_bytes s.root) path value f
IsNoReply AskMember s path value f = IsNoAnswer (definitions_in s.definitions) (string_bytes s.root) path f
IsNoReply Show s path value f = f ≡ NoCommand

-- `schema --json` replies the JSON of a container's bytes, as a yes
abbrev pub IsSchemaReply : List ℕ → Bool → List ℕ → Type 0
IsSchemaReply bytes is_yes out = (is_yes ≡ true) × IsContainer bytes × IsSchemaJson bytes out

-- `schema --rust` replies the text of items of the container's bytes, as a yes
abbrev pub IsRustReply : List ℕ → Bool → List ℕ → Type 0
IsRustReply bytes is_yes out = (is_yes ≡ true) × ((i : Items) × AreItems bytes i × (out ≡ string_bytes i.text))

-- `compile` replies the bytes of a container alone, or their digits, as a yes
abbrev pub IsContainerReply : Schema → Bool → Bool → List ℕ → Type 0
IsContainerReply s is_hex is_yes out = (is_yes ≡ true) × ((bytes : List ℕ) × IsSent s [] bytes × (out ≡ in_digits is_hex bytes))

-- ---- what is written

-- it is this reply
abbrev pub IsReplyOf : Reply → Bool → List ℕ → Type 0
IsReplyOf reply is_yes out = (is_yes ≡ reply.is_yes) × (out ≡ reply.output.items)

-- any failure may be
abbrev pub Any : Failure → Type 0
Any f = ⊤

-- there is no such failure
abbrev pub Never : Failure → Type 0
Never f = ⊥

-- the outcome of a command that writes its reply: after a success all of one, and whether it is yes; after a failure a beginning of one, since the writer failed, or nothing, for a reason
pub record Prints {W : Type 0} (IsReply : Bool → List ℕ → Type 0) (IsNone : Failure → Type 0) (w : WriterModel W) (old new : W) (result : Result Bool Failure) : Type 0 where
  pub written : List ℕ
  pub wrote : w.wrote old new written
  pub whole : IfOk result (λ is_yes. IsReply is_yes written)
  pub none : IfErr result (λ f. (IsWriteFailure f × ((is_yes : Bool) × (lost : List ℕ) × IsReply is_yes (written ++ lost))) ⊎ ((written ≡ []) × IsNone f))
