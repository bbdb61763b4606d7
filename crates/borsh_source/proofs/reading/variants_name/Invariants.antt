use Rattle.std.proofs.Common.{◌≡◌, take, false}
use Rattle.borsh_source.specs.Reading.{variants_name}
use Rattle.borsh_source.specs.Views.{source_of}
use Rattle.borsh_source.proofs.reading.variants_name.Given as goal

abbrev pub invariant-loop-variant : goal.invariant-loop-variant
invariant-loop-variant l = variants_name (source_of l.context) l.parameter (take l.variant-index l.variants) ≡ false
