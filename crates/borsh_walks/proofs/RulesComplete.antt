-- That a valid container is not refused.
use Rattle.std.proofs.Common.{ℕ, List, refl}
use Rattle.std.specs.Prelude.{Option, Result, Ok, Err, MatchResult}
use Rattle.borsh_walks.specs.Container.{Shape, IsValid, zst_sequence, tag_too_wide, tag_too_narrow, tag_not_power_of_two, missing_definition, empty_length_range}
use Rattle.borsh_walks.specs.RulesAnswer.{AcceptsIfValid, RulesFault}
use Rattle.borsh_walks.specs.declared.error.SchemaContainerValidateError.{SchemaContainerValidateError}
use Rattle.borsh_walks.specs.declared.error.SchemaContainerValidateError.TheVariants.{ZSTSequence, TagTooWide, TagTooNarrow, TagNotPowerOfTwo, MissingDefinition, EmptyLengthRange, OutOfMemory}

module _ (C : List ℕ → Option Shape) (root : List ℕ) where
  pub rules_complete : (r : Result (Unit {0}) SchemaContainerValidateError) → MatchResult r (λ _. IsValid C root) (λ e. RulesFault C root e) → AcceptsIfValid C root r
  rules_complete (Ok u) a = λ v. tt
  rules_complete (Err (ZSTSequence m)) a = λ v. absurd (v _ a.0 zst_sequence a.1)
  rules_complete (Err (TagTooWide m)) a = λ v. absurd (v _ a.0 tag_too_wide a.1)
  rules_complete (Err (TagTooNarrow m)) a = λ v. absurd (v _ a.0 tag_too_narrow a.1)
  rules_complete (Err (TagNotPowerOfTwo m)) a = λ v. absurd (v _ a.0 tag_not_power_of_two a.1)
  rules_complete (Err (MissingDefinition m)) a = λ v. absurd (v _ a.0 missing_definition a.1)
  rules_complete (Err (EmptyLengthRange m)) a = λ v. absurd (v _ a.0 empty_length_range a.1)
  rules_complete (Err OutOfMemory) a = λ v. refl
