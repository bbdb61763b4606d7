-- The bytes so far are answered.
use Rattle.std.proofs.Common.{take}
use Rattle.borsh_check_lines.specs.Answers.{Answers}
use Rattle.borsh_check_lines.specs.Counts.{line_count}
use Rattle.borsh_check_lines.proofs.LineSteps.{ChunkSoFar}
use Rattle.borsh_check_lines.proofs.replies.answer_chunk.Given as goal

abbrev pub invariant-loop-byte : goal.invariant-loop-byte
invariant-loop-byte l = ChunkSoFar Answers (take l.byte-index l.chunk) l.initial.line.items l.line.items l.initial.out.items l.out.items (line_count l.initial.answerer) (line_count l.answerer)
