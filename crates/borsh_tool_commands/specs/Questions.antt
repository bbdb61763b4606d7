-- What answers a question about a container.
use Rattle.std.specs.Prelude.{◌≡◌, ℕ, Bool, true, List, Option, Some, is_some, string_bytes}
use Rattle.borsh_walks.specs.Answers.{IsSaid, SaysRules, SaysSize}
use Rattle.borsh_walks.specs.Definitions.{definitions_in}
use Rattle.borsh_tool_commands.specs.declared.answers.Question.{Question}
use Rattle.borsh_tool_commands.specs.declared.answers.Question.TheVariants.{Schema as AskSchema, Check, Size}
use Rattle.borsh_tool_commands.specs.declared.values.Schema.{Schema}
use Rattle.borsh_tool_commands.specs.Answers.{words_line}
use Rattle.borsh_tool_commands.specs.Definitions.{schema_lines}
use Rattle.borsh_tool_commands.specs.Sent.{schema_encoding}

-- whether the answer is yes, and its text
abbrev pub AnswersQuestion : Question → Schema → Bool → List ℕ → Type 0
AnswersQuestion AskSchema s b out = (b ≡ true) × (out ≡ schema_lines s)
AnswersQuestion Check s b out = IsSaid words_line (SaysRules (definitions_in s.definitions) (string_bytes s.root) b) out
AnswersQuestion Size s b out =
    (size : Option ℕ) × (b ≡ is_some size) × IsSaid words_line (SaysSize (definitions_in s.definitions) (string_bytes s.root) size) out

-- the same of the container whose encoding the bytes are
abbrev pub AnswersRequest : Question → List ℕ → Bool → List ℕ → Type 0
AnswersRequest q bytes b out = (s : Schema) × (schema_encoding s ≡ Some bytes) × AnswersQuestion q s b out
