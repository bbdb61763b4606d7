-- No value was found in what was read; each turn uses up a read, or comes to the end.
use Rattle.std.proofs.Common.{◌+◌, if◌then◌else◌}
use Rattle.borsh_values.specs.Records.{source_of}
use Rattle.borsh_values.proofs.RecordLaws.{ReadSoFar}
use Rattle.borsh_values.proofs.records.Records.advance.Given as goal

abbrev pub invariant-loop-self : goal.invariant-loop-self
invariant-loop-self g l = ReadSoFar g.R.Read.stream l.initial.self l.self l.at_end

abbrev pub decreases-loop-self : goal.decreases-loop-self
decreases-loop-self g l = (g.R.Read.stream (source_of l.self)).reads_left + (if l.at_end then 0 else 1)
