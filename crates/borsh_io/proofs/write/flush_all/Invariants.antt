-- Nothing is written while flushes are interrupted.
use Rattle.std.proofs.Common.{[]}
use Rattle.borsh_io.specs.Sink.{WroteBytes}
use Rattle.borsh_io.proofs.write.flush_all.Given as goal

abbrev pub invariant-loop-e : goal.invariant-loop-e
invariant-loop-e g l = WroteBytes g.W.Write.writing l.initial.writer l.writer []

abbrev pub decreases-loop-e : goal.decreases-loop-e
decreases-loop-e g l = (g.W.Write.writing.sink l.writer).interruptions
