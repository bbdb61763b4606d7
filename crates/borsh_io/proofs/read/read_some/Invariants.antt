-- Nothing is taken while reads are interrupted.
use Rattle.std.proofs.Common.{◌≡◌, [], length}
use Rattle.borsh_io.specs.Stream.{Consumed}
use Rattle.borsh_io.proofs.read.read_some.Given as goal

abbrev pub invariant-loop-n : goal.invariant-loop-n
invariant-loop-n g l = record {
  len : length l.buf ≡ length l.initial.buf;
  takes : Consumed (g.R.Read.stream l.initial.reader) (g.R.Read.stream l.reader) [];
}

abbrev pub decreases-loop-n : goal.decreases-loop-n
decreases-loop-n g l = (g.R.Read.stream l.reader).interruptions
