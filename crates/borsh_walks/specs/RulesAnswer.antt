-- The local rules, and what a result of `check_rules` means.
use Rattle.std.specs.Prelude.{◌≡◌, ℕ, ◌<◌, ◌≤◌, ◌⊎◌, List, Option, Some, None, string_bytes, ⊤, eqb, ◌&&◌, cond, MatchOption, MatchResult, Result, Bool}
use Rattle.std.specs.Borrow.{Bor}
use Rattle.std.specs.BTreeMap.{BTreeMap}
use Rattle.borsh_walks.specs.Tables.{mark_of}
use Rattle.borsh_walks.specs.ZeroAnswer.{zero_size_parts}
use Rattle.borsh_walks.specs.declared.rules.Broken.{Broken}
use Rattle.borsh_walks.specs.declared.rules.Broken.TheVariants.{ZeroSized, Wide, Narrow, NotPowerOfTwo, Missing, EmptyRange}
use Rattle.borsh_walks.specs.declared.error.SchemaContainerValidateError.{SchemaContainerValidateError}
use Rattle.borsh_walks.specs.declared.error.SchemaContainerValidateError.TheVariants.{ZSTSequence, TagTooWide, TagTooNarrow, TagNotPowerOfTwo, MissingDefinition, EmptyLengthRange, OutOfMemory}
use Rattle.borsh_walks.specs.Container.{Shape, sequence, choice, Rule, zst_sequence, tag_too_wide, tag_too_narrow, tag_not_power_of_two, missing_definition, empty_length_range, Breaks, IsValid, Reached, Reaches}

abbrev pub rule_of : Broken → Rule
rule_of ZeroSized = zst_sequence
rule_of Wide = tag_too_wide
rule_of Narrow = tag_too_narrow
rule_of NotPowerOfTwo = tag_not_power_of_two
rule_of Missing = missing_definition
rule_of EmptyRange = empty_length_range

-- a width that keeps the rules, at this end
abbrev pub IsWidth : ℕ → ℕ → Type 0
IsWidth w hi = (w ≡ 0) ⊎ (w ≡ 8) ⊎ ((w ≡ 1) × (hi < 256)) ⊎ ((w ≡ 2) × (hi < 65536)) ⊎ ((w ≡ 4) × (hi < 4294967296))

-- a rule of a sequence's width, broken
abbrev pub BreaksWidth : Rule → ℕ → ℕ → Type 0
BreaksWidth tag_too_wide w hi = 8 < w
BreaksWidth tag_too_narrow w hi = ((w ≡ 1) × (256 ≤ hi)) ⊎ ((w ≡ 2) × (65536 ≤ hi)) ⊎ ((w ≡ 4) × (4294967296 ≤ hi))
BreaksWidth tag_not_power_of_two w hi = (w ≡ 3) ⊎ (w ≡ 5) ⊎ (w ≡ 6) ⊎ (w ≡ 7)
BreaksWidth _ w hi = ⊥

abbrev pub BreaksSequence : Rule → ℕ → ℕ → ℕ → Type 0
BreaksSequence empty_length_range w lo hi = hi < lo
BreaksSequence r w lo hi = BreaksWidth r w hi

abbrev pub BreaksChoice : Rule → ℕ → Type 0
BreaksChoice tag_too_wide w = 8 < w
BreaksChoice _ w = ⊥

-- the rules that need no look at another name
abbrev pub KeepsWidths : Shape → Type 0
KeepsWidths (sequence w lo hi e) = (lo ≤ hi) × IsWidth w hi
KeepsWidths (choice w vs) = w ≤ 8
KeepsWidths _ = ⊤

abbrev pub BreaksShape : Rule → Shape → Type 0
BreaksShape r (sequence w lo hi e) = BreaksSequence r w lo hi
BreaksShape r (choice w vs) = BreaksChoice r w
BreaksShape r _ = ⊥

-- the element of a sequence that must not be of zero size
abbrev pub checked_element : Shape → Option (List ℕ)
checked_element (sequence w lo hi e) = cond (eqb w 0 && eqb lo hi) None (Some e)
checked_element _ = None

module _ (C : List ℕ → Option Shape) where
  -- what a name's definition breaks, if it breaks a rule
  abbrev pub RuleAnswer : Shape → Option Broken → Type 0
  RuleAnswer d o = MatchOption o ((x : List ℕ) → C x ≡ Some d → (r : Rule) → Breaks C r x → ⊥) (λ k. (x : List ℕ) → C x ≡ Some d → Breaks C (rule_of k) x)

  -- what was marked stays marked, and so is an element that was checked, if it is defined
  abbrev pub ElementMarked : Shape → BTreeMap (Bor (List ℕ)) Bool → BTreeMap (Bor (List ℕ)) Bool → Type 0
  ElementMarked d t u = ((x : List ℕ) → (mark_of t x ≡ None → ⊥) → mark_of u x ≡ None → ⊥) × ((e : List ℕ) → checked_element d ≡ Some e → (C e ≡ None → ⊥) → mark_of u e ≡ None → ⊥)

  -- where no rule is broken, the element of the definition is marked
  abbrev pub MarksElement : Shape → BTreeMap (Bor (List ℕ)) Bool → BTreeMap (Bor (List ℕ)) Bool → Option Broken → Type 0
  MarksElement d t u o = MatchOption o (ElementMarked d t u) (λ _. ⊤)

  -- the name is the element that is checked, or parts that have to be of zero size lead from there to it
  abbrev pub ElementReaches : Shape → List ℕ → Type 0
  ElementReaches d x = (e : List ℕ) × (checked_element d ≡ Some e) × Reaches C zero_size_parts e x

  module _ (root : List ℕ) where
    -- the name is so for the definition of a reached name
    abbrev pub ZeroSizeReaches : List ℕ → Type 0
    ZeroSizeReaches x = (y : List ℕ) × (d : Shape) × Reached C root y × (C y ≡ Some d) × ElementReaches d x

    -- the error names a reached name and a rule that it breaks
    abbrev pub RulesFault : SchemaContainerValidateError → Type 0
    RulesFault (ZSTSequence m) = Reached C root (string_bytes m) × Breaks C zst_sequence (string_bytes m)
    RulesFault (TagTooWide m) = Reached C root (string_bytes m) × Breaks C tag_too_wide (string_bytes m)
    RulesFault (TagTooNarrow m) = Reached C root (string_bytes m) × Breaks C tag_too_narrow (string_bytes m)
    RulesFault (TagNotPowerOfTwo m) = Reached C root (string_bytes m) × Breaks C tag_not_power_of_two (string_bytes m)
    RulesFault (MissingDefinition m) = Reached C root (string_bytes m) × Breaks C missing_definition (string_bytes m)
    RulesFault (EmptyLengthRange m) = Reached C root (string_bytes m) × Breaks C empty_length_range (string_bytes m)
    RulesFault OutOfMemory = ⊤

    -- `Ok`: the container is valid; `Err`: the error names a reached name and a rule that it breaks
    abbrev pub JudgesRules : Result (Unit {0}) SchemaContainerValidateError → Type 0
    JudgesRules r = MatchResult r (λ _. IsValid C root) (λ e. RulesFault e)

    -- a valid container is accepted, unless an allocation fails
    abbrev pub AcceptsIfValid : Result (Unit {0}) SchemaContainerValidateError → Type 0
    AcceptsIfValid r = IsValid C root → MatchResult r (λ _. ⊤) (λ e. e ≡ OutOfMemory)

-- the answer is a rule that the shape breaks by itself, or none
abbrev pub AnswersShape : Shape → Option Broken → Type 0
AnswersShape d o = MatchOption o (KeepsWidths d) (λ k. BreaksShape (rule_of k) d)

-- the error says that the name breaks the rule, or an allocation for its text failed
abbrev pub IsRulesError : Rule → List ℕ → SchemaContainerValidateError → Type 0
IsRulesError r x (ZSTSequence m) = (r ≡ zst_sequence) × (string_bytes m ≡ x)
IsRulesError r x (TagTooWide m) = (r ≡ tag_too_wide) × (string_bytes m ≡ x)
IsRulesError r x (TagTooNarrow m) = (r ≡ tag_too_narrow) × (string_bytes m ≡ x)
IsRulesError r x (TagNotPowerOfTwo m) = (r ≡ tag_not_power_of_two) × (string_bytes m ≡ x)
IsRulesError r x (MissingDefinition m) = (r ≡ missing_definition) × (string_bytes m ≡ x)
IsRulesError r x (EmptyLengthRange m) = (r ≡ empty_length_range) × (string_bytes m ≡ x)
IsRulesError r x OutOfMemory = ⊤
