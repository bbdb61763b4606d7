use Rattle.std.proofs.Common.{◌≡◌, take, false}
use Rattle.borsh_source.specs.Reading.{fields_name}
use Rattle.borsh_source.specs.Views.{source_of}
use Rattle.borsh_source.proofs.reading.fields_name.Given as goal

abbrev pub invariant-loop-field : goal.invariant-loop-field
invariant-loop-field l = fields_name (source_of l.context) l.parameter (take l.field-index l.fields) ≡ false
