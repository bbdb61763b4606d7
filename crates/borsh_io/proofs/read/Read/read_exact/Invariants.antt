-- What was filled is what was taken; each turn fills a byte or uses up an interruption.
use Rattle.std.proofs.Common.{length, ◌-◌, ◌≡◌, ◌+◌, ◌≤◌, take}
use Rattle.borsh_io.specs.Stream.{Consumed}
use Rattle.borsh_io.proofs.read.Read.read_exact.Given as goal

abbrev pub invariant-loop-at : goal.invariant-loop-at
invariant-loop-at g l = record {
  len : length l.buf ≡ length l.initial.buf;
  within : l.at ≤ length l.buf;
  takes : Consumed (g.Self.Read.stream l.initial.self) (g.Self.Read.stream l.self) (take l.at l.buf);
}

abbrev pub decreases-loop-at : goal.decreases-loop-at
decreases-loop-at g l = (length l.initial.buf - l.at) + (g.Self.Read.stream l.self).interruptions
