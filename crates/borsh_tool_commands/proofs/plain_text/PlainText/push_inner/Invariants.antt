-- The bytes before the index were added as they are printed between quotation marks.
use Rattle.std.proofs.Common.{◌≡◌, ◌++◌, flat_map, take}
use Rattle.borsh_tool_commands.specs.Plain.{quoted}
use Rattle.borsh_tool_commands.proofs.plain_text.PlainText.push_inner.Given as goal

abbrev pub invariant-loop-byte : goal.invariant-loop-byte
invariant-loop-byte l = l.self.text.items ≡ l.fn.self.text.items ++ flat_map quoted (take l.byte-index l.bytes)
