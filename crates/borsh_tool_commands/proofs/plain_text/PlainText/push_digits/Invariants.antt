-- The bytes before the index were added as digits.
use Rattle.std.proofs.Common.{◌≡◌, ◌++◌, flat_map, take}
use Rattle.borsh_tool_commands.specs.Plain.{digits}
use Rattle.borsh_tool_commands.proofs.plain_text.PlainText.push_digits.Given as goal

abbrev pub invariant-loop-byte : goal.invariant-loop-byte
invariant-loop-byte l = l.self.text.items ≡ l.fn.self.text.items ++ flat_map digits (take l.byte-index l.bytes)
