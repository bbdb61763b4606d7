-- What is gone from `rest` was written; each turn writes a byte or uses up an interruption.
use Rattle.std.proofs.Common.{◌≡◌, ℕ, List, ◌++◌, ◌+◌, length}
use Rattle.borsh_io.specs.Sink.{WroteBytes}
use Rattle.borsh_io.proofs.write.Write.write_all.Given as goal

abbrev pub invariant-loop-rest : goal.invariant-loop-rest
invariant-loop-rest g l = record {
  done : List ℕ;
  split : l.initial.rest ≡ done ++ l.rest;
  writes : WroteBytes g.Self.Write.writing l.initial.self l.self done;
}

abbrev pub decreases-loop-rest : goal.decreases-loop-rest
decreases-loop-rest g l = length l.rest + (g.Self.Write.writing.sink l.self).interruptions
