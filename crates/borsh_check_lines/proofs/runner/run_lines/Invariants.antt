-- The lines that have ended are answered, and the part behind them is kept; each turn uses up a read.
use Rattle.std.proofs.Common.{ℕ, List, [], length, ◌≡◌}
use Rattle.borsh_check_lines.specs.Answers.{Answers}
use Rattle.borsh_check_lines.specs.Counts.{line_count}
use Rattle.borsh_check_lines.proofs.Turns.{SoFar}
use Rattle.borsh_check_lines.proofs.runner.run_lines.Given as goal

abbrev pub invariant-chunks : goal.invariant-chunks
invariant-chunks g l = record {
  done : List ℕ;
  lines : List (List ℕ);
  out : List ℕ;
  room : length l.buffer.items ≡ 8192;
  so_far : SoFar Answers g.W.Write.writing (g.R.Read.stream l.initial.reader) (g.R.Read.stream l.reader) l.initial.writer l.writer done lines l.line.items out [] (line_count l.initial.answerer) (line_count l.answerer);
}

abbrev pub decreases-chunks : goal.decreases-chunks
decreases-chunks g l = (g.R.Read.stream l.reader).reads_left
