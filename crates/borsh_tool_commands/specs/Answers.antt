-- What the commands answer.
use Rattle.std.specs.Prelude.{◌≡◌, ℕ, Bool, true, false, List, [], ◌∷◌, ◌++◌, Option, Some, String, codes}
use Rattle.std.specs.BTreeMap.{BTreeMap}
use Rattle.std.specs.Global.{Global}
use Rattle.borsh_json.specs.Forms.{forms_in}
use Rattle.borsh_json.specs.InOrder.{Step, IsRepresented}
use Rattle.borsh_json.specs.NoJson.{RefusesBytes}
use Rattle.borsh_json.specs.declared.error.Refusal.{Refusal}
use Rattle.borsh_json.specs.declared.error.Refusal.TheVariants.{TooDeep}
use Rattle.borsh_walks.specs.Answers.{spoken}
use Rattle.borsh_walks.specs.Container.{Member}
use Rattle.borsh_walks.specs.Definitions.{definitions_in}
use Rattle.borsh_walks.specs.declared.definition.Definition.{Definition}
use Rattle.borsh_tool_commands.specs.Plain.{name_text}

-- a text as a line
abbrev pub line_of : List ℕ → List ℕ
line_of text = text ++ (10 ∷ [])

-- words, and a name behind them, if there is one, as a line
abbrev pub words_line : List ℕ × Option (List ℕ) → List ℕ
words_line w = line_of (spoken name_text w)

-- that a name has no definition
abbrev pub missing_text : List ℕ → List ℕ
missing_text name = words_line (codes "missing", Some name)

-- ---- `member`

-- `member`, of bytes that JSON represents if they have to be canonical; or `no member`, where, and why, exactly if they are none; or, only if they have to
-- be, `not canonical` of a member that has no JSON, or none that nests at most 128 deep, for a reason, at a path
pub data AnswersMember (m : BTreeMap (String Global) Definition) (root bytes : List ℕ) (strict yes : Bool) (out : List ℕ) : Type 0 where
  member : Member (definitions_in m) root bytes → (strict ≡ true → IsRepresented (forms_in m) root bytes) → yes ≡ true → out ≡ line_of (codes "member") → AnswersMember m root bytes strict yes out
  no_member : (why : List ℕ) → (Member (definitions_in m) root bytes → ⊥) → yes ≡ false → out ≡ line_of (codes "no member: " ++ why) → AnswersMember m root bytes strict yes out
  not_canonical : (why : List ℕ) (path : List Step) (refusal : Refusal) → Member (definitions_in m) root bytes → RefusesBytes (forms_in m) root bytes path refusal → (IsRepresented (forms_in m) root bytes → refusal ≡ TooDeep) → strict ≡ true → yes ≡ false → out ≡ line_of (codes "not canonical: " ++ why) → AnswersMember m root bytes strict yes out
