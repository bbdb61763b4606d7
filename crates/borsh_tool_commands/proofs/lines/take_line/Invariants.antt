-- The bytes that were searched have no line feed.
use Rattle.borsh_tool_commands.proofs.LineLaws.{ReadSoFar}
use Rattle.borsh_tool_commands.proofs.lines.take_line.Given as goal

abbrev pub invariant-reads : goal.invariant-reads
invariant-reads g l = ReadSoFar g.R.Read.stream l.fn.input l.input l.searched
