-- Which JSON is of which bytes.
use Rattle.std.specs.Prelude.{◌≡◌, ℕ, All, List, String}
use Rattle.std.specs.Global.{Global}
use Rattle.std.specs.BTreeMap.{BTreeMap}
use Rattle.borsh_json.specs.Ascii.{IsInLine, IsPlain}
use Rattle.borsh_json.specs.Errors.{IsNoJsonReason, IsTextReason}
use Rattle.borsh_json.specs.Forms.{forms_in}
use Rattle.borsh_json.specs.InOrder.{TextRepresents}
use Rattle.borsh_json.specs.NoJson.{ShowsNoJson}
use Rattle.borsh_json.specs.NoValue.{ShowsNoValue}
use Rattle.borsh_json.specs.Printed.{HasQuotedNumbers}
use Rattle.borsh_json.specs.declared.error.JsonError.{JsonError}
use Rattle.borsh_json.specs.declared.error.JsonError.TheVariants.{OutOfMemory as NoMemory}
use Rattle.borsh_json.specs.declared.output.Layout.{Layout}
use Rattle.borsh_json.specs.declared.output.Layout.TheVariants.{Compact}
use Rattle.borsh_walks.specs.Definitions.{definitions_in}
use Rattle.borsh_walks.specs.declared.definition.Definition.{Definition}
use Rattle.borsh_tool_commands.specs.Answers.{line_of}

-- there is a reason of this kind, and not only a failed allocation
abbrev pub HasReason : (JsonError → Type 0) → Type 0
HasReason Reason = (e : JsonError) × Reason e × (e ≡ NoMemory → ⊥)

module _ (map : BTreeMap (String Global) Definition) (root : List ℕ) where
  -- each whole number of 64 bits in the line of JSON is a string
  abbrev pub HasQuotedLine : List ℕ → Type 0
  HasQuotedLine line = (text : List ℕ) → line ≡ line_of text → HasQuotedNumbers (forms_in map) root text

  -- the text is JSON that says the bytes, which are a member of the root; the elements of sets and the keys of maps ascend where their order is known
  abbrev pub IsJsonInOrder : List ℕ → List ℕ → Type 0
  IsJsonInOrder text bytes = TextRepresents (forms_in map) root text bytes

  -- such a text of printable ASCII, with a line feed behind it, which is the only one if the text is compact
  abbrev pub IsJsonLine : Layout → List ℕ → List ℕ → Type 0
  IsJsonLine layout bytes line = (text : List ℕ) × IsJsonInOrder text bytes × All IsPlain text × (layout ≡ Compact → All IsInLine text) × (line ≡ line_of text)

  -- the bytes are no member, or the definitions are undecided, or a part of a member has no JSON
  abbrev pub HasNoJson : List ℕ → Type 0
  HasNoJson bytes = HasReason (λ e. IsNoJsonReason (definitions_in map) root bytes e × ShowsNoJson (forms_in map) root bytes e)

  -- the text is no JSON, or the definitions are undecided, or a part of it says no value
  abbrev pub SaysNone : List ℕ → Type 0
  SaysNone text = HasReason (λ e. IsTextReason (definitions_in map) root text e × ShowsNoValue (forms_in map) root text e)
