-- What is written so far is a line of an error.
use Rattle.borsh_check_lines.specs.Lines.{IsErrorLine}
use Rattle.borsh_check_lines.proofs.values.error_answer.Given as goal

abbrev pub invariant-loop-byte : goal.invariant-loop-byte
invariant-loop-byte l = IsErrorLine l.out.items
