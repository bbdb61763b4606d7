-- What the call answers about the container of a type.
use Rattle.std.specs.Prelude.{◌≡◌, ⊤, ℕ, List, Some, codes, string_bytes}
use Rattle.borsh_definitions.specs.Codecs.{root_and_map}
use Rattle.borsh_definitions.specs.Described.{forms_in}
use Rattle.borsh_source.specs.Container.{IsMeaning}
use Rattle.borsh_source.specs.declared.compiling.Compiled.{Compiled}
use Rattle.borsh_source.specs.declared.tree.Source.{Source}
use Rattle.borsh_walks.specs.Container.{IsValid}
use Rattle.borsh_walks.specs.Definitions.{definitions_in}
use Rattle.borsh_c.specs.Answers.{About, Saying, IsShort}
use Rattle.borsh_c.specs.declared.refusal.NoAnswer.{NoAnswer}
use Rattle.borsh_c.specs.declared.refusal.NoAnswer.TheVariants.{No, Malformed, OutOfMemory, Undecided}

-- it keeps the rules, and has the definitions of a type of some tree of items, and no others
abbrev pub IsOfType : Saying
IsOfType m root = IsValid (definitions_in m) root × ((S : Source) × (t : ℕ) × IsMeaning S t root (forms_in m))

-- the bytes are the encoding of what was compiled
abbrev pub AreEncodingOf : Compiled → List ℕ → Type 0
AreEncodingOf c bytes = root_and_map.encoding (c.declaration, c.definitions) ≡ Some bytes

-- no, or want of memory
abbrev pub TellsNoType : NoAnswer → Type 0
TellsNoType (No t) = IsShort (string_bytes t.text)
TellsNoType (Malformed t) = ⊥
TellsNoType OutOfMemory = ⊤
TellsNoType (Undecided t) = ⊥

-- code 0: the encoding of a type's container is given; code 1: a text that says why there is none
pub data AnswersContainer (code : ℕ) (given : List ℕ) : Type 0 where
  compiled : About given IsOfType × IsShort given → code ≡ 0 → AnswersContainer code given
  refused : IsShort given → code ≡ 1 → AnswersContainer code given
  out_of_memory : given ≡ codes "out of memory" → code ≡ 3 → AnswersContainer code given
