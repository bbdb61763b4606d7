-- What is held is all that was read.
use Rattle.std.specs.Io.KnownBytes.{Consumes}
use Rattle.borsh_io.specs.Buffered.{held, reader_of}
use Rattle.borsh_tool_commands.proofs.fronts.read_value.Given as goal

abbrev pub invariant-loop : goal.invariant-loop
invariant-loop g l = Consumes (g.R.Read.stream (reader_of l.fn.input)).bytes (g.R.Read.stream (reader_of l.input)).bytes (held l.input)
