use Rattle.std.proofs.Common.{◌≡◌, take}
use Rattle.borsh_source.specs.Meaning.{kept_names}
use Rattle.borsh_source.specs.Views.{texts_of}
use Rattle.borsh_source.proofs.items.kept_names.Given as goal

abbrev pub invariant-loop-field : goal.invariant-loop-field
invariant-loop-field l = texts_of l.names.items ≡ kept_names (take l.field-index l.fields)
