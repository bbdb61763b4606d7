-- The errors of failed allocations, and what the others say.
use Rattle.std.specs.Prelude.{List, ℕ, Option, Some, None, codes, string_bytes}
use Rattle.borsh_walks.specs.Container.{Rule, zst_sequence, tag_too_wide, tag_too_narrow, tag_not_power_of_two, missing_definition, empty_length_range}
use Rattle.borsh_walks.specs.declared.error.SchemaContainerValidateError.{SchemaContainerValidateError}
use Rattle.borsh_walks.specs.declared.error.SchemaContainerValidateError.TheVariants.{ZSTSequence, TagTooWide, TagTooNarrow, TagNotPowerOfTwo, MissingDefinition, EmptyLengthRange, OutOfMemory as NoMemory}
use Rattle.borsh_walks.specs.declared.error.SchemaMaxSerializedSizeError.{SchemaMaxSerializedSizeError}
use Rattle.borsh_walks.specs.declared.error.SchemaMaxSerializedSizeError.TheVariants.{OutOfMemory}

-- an allocation failed in the walk for the rules
abbrev pub no_memory : SchemaContainerValidateError
no_memory = NoMemory

-- an allocation failed in the walk for the size
abbrev pub out_of_memory : SchemaMaxSerializedSizeError
out_of_memory = OutOfMemory

-- the name of a rule
abbrev pub rule_name : Rule → List ℕ
rule_name zst_sequence = codes "ZSTSequence"
rule_name tag_too_wide = codes "TagTooWide"
rule_name tag_too_narrow = codes "TagTooNarrow"
rule_name tag_not_power_of_two = codes "TagNotPowerOfTwo"
rule_name missing_definition = codes "MissingDefinition"
rule_name empty_length_range = codes "EmptyLengthRange"

-- the rule that is broken, by its name, and the name that breaks it; none if an allocation failed
abbrev pub broken_rule : SchemaContainerValidateError → Option (List ℕ × List ℕ)
broken_rule (ZSTSequence m) = Some (rule_name zst_sequence, string_bytes m)
broken_rule (TagTooWide m) = Some (rule_name tag_too_wide, string_bytes m)
broken_rule (TagTooNarrow m) = Some (rule_name tag_too_narrow, string_bytes m)
broken_rule (TagNotPowerOfTwo m) = Some (rule_name tag_not_power_of_two, string_bytes m)
broken_rule (MissingDefinition m) = Some (rule_name missing_definition, string_bytes m)
broken_rule (EmptyLengthRange m) = Some (rule_name empty_length_range, string_bytes m)
broken_rule NoMemory = None
