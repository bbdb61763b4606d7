-- What the call answers about two containers.
use Rattle.std.specs.Prelude.{◌≡◌, ◌⊎◌, ◌++◌, ⊤, ℕ, List, codes, string_bytes}
use Rattle.borsh_plan.specs.declared.plan.Plan.{Plan}
use Rattle.borsh_plan.specs.Plan.{map_of, root_of}
use Rattle.borsh_walks.specs.Container.{Member}
use Rattle.borsh_walks.specs.Definitions.{definitions_in}
use Rattle.borsh_compare.specs.Walks.{IsStillRead}
use Rattle.borsh_c.specs.Answers.{About, Definitions, Saying, IsMalformed, IsShort}
use Rattle.borsh_c.specs.declared.refusal.NoAnswer.{NoAnswer}
use Rattle.borsh_c.specs.declared.refusal.NoAnswer.TheVariants.{No, Malformed, OutOfMemory, Undecided}

-- what may be said of two containers, the old one first
abbrev pub SayingOfTwo : Type 1
SayingOfTwo = Definitions → List ℕ → Saying

-- the bytes are the encodings of containers of which this holds
abbrev pub AboutTwo : List ℕ → List ℕ → SayingOfTwo → Type 0
AboutTwo old new P = About old (λ m x. About new (P m x))

-- some bytes are a member of the old root and none of the new
abbrev pub IsLost : SayingOfTwo
IsLost m x n y = (bytes : List ℕ) × Member (definitions_in m) x bytes × (Member (definitions_in n) y bytes → ⊥)

-- whatever they are
abbrev pub AreAny : SayingOfTwo
AreAny m x n y = ⊤

-- the same of two plans
abbrev pub OfPlans : SayingOfTwo → Plan → Plan → Type 0
OfPlans P old new = P (map_of old) (root_of old) (map_of new) (root_of new)

-- no container decodes from the bytes, and the text says so behind a word
abbrev pub IsMalformedAs : List ℕ → List ℕ → List ℕ → Type 0
IsMalformedAs word bytes text = (why : List ℕ) × IsMalformed bytes why × (text ≡ word ++ (codes ": " ++ why))

-- one of the two is none
abbrev pub IsOneMalformed : List ℕ → List ℕ → List ℕ → Type 0
IsOneMalformed old new text = IsMalformedAs (codes "old") old text ⊎ IsMalformedAs (codes "new") new text

-- a refusal says what is right: what is so after a no, and where it is undecided
module _ (M : List ℕ → Type 0) (N U : Type 0) where
  abbrev pub RefusesTwo : NoAnswer → Type 0
  RefusesTwo (No t) = IsShort (string_bytes t.text) × N
  RefusesTwo (Malformed t) = M (string_bytes t)
  RefusesTwo OutOfMemory = ⊤
  RefusesTwo (Undecided t) = IsShort (string_bytes t) × U

-- no text
abbrev pub NoText : List ℕ → Type 0
NoText text = ⊥

-- code 0: all old values are new ones; code 1: one isn't; code 5: neither was found
pub data AnswersCompared (old new : List ℕ) (code : ℕ) (given : List ℕ) : Type 0 where
  still_read : IsShort given → AboutTwo old new IsStillRead → code ≡ 0 → AnswersCompared old new code given
  lost : IsShort given → AboutTwo old new IsLost → code ≡ 1 → AnswersCompared old new code given
  malformed : IsOneMalformed old new given → code ≡ 2 → AnswersCompared old new code given
  out_of_memory : given ≡ codes "out of memory" → code ≡ 3 → AnswersCompared old new code given
  not_known : IsShort given → AboutTwo old new AreAny → code ≡ 5 → AnswersCompared old new code given
