use Rattle.std.proofs.Common.{◌≡◌, take}
use Rattle.borsh_source.specs.Meaning.{kept_types}
use Rattle.borsh_source.proofs.items.kept_types.Given as goal

abbrev pub invariant-loop-field : goal.invariant-loop-field
invariant-loop-field l = l.types.items ≡ kept_types (take l.field-index l.fields)
