-- The bytes so far are written.
use Rattle.std.proofs.Common.{take}
use Rattle.borsh.specs.Sink.{WroteBytes}
use Rattle.borsh_check_lines.specs.Runs.{spaced}
use Rattle.borsh_check_lines.proofs.ending.write_spaced.Given as goal

abbrev pub invariant-loop-byte : goal.invariant-loop-byte
invariant-loop-byte g l = WroteBytes g.W.Write.writing l.initial.errors l.errors (spaced (take l.byte-index l.text))
