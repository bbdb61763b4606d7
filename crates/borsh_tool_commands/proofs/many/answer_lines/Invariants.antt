-- The first lines are answered.
use Rattle.borsh_io.specs.Buffered.{held, reader_of}
use Rattle.borsh_tool_commands.specs.Lines.{IsFirstLine}
use Rattle.borsh_tool_commands.specs.Many.{AnswersLine}
use Rattle.borsh_tool_commands.proofs.ManyLaws.{SoFar}
use Rattle.borsh_tool_commands.proofs.many.answer_lines.Given as goal

abbrev pub invariant-loop-number : goal.invariant-loop-number
invariant-loop-number g l =
    SoFar IsFirstLine (AnswersLine l.many.json.now.plan.now l.wanted l.is_lenient) g.W.Write.writing (g.R.Read.stream l.fn.input).bytes (g.R.Read.stream (reader_of l.lines)).bytes (held l.lines) l.fn.out l.out l.made.items
