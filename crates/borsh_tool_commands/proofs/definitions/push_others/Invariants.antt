-- What was added and the lines that are left are those of all names.
use Rattle.std.proofs.Common.{◌≡◌, ◌++◌, flat_map}
use Rattle.borsh_tool_commands.specs.Definitions.{other_text}
use Rattle.borsh_tool_commands.proofs.definitions.push_others.Given as goal

abbrev pub invariant-loop-name : goal.invariant-loop-name
invariant-loop-name l = l.out.text.items ++ flat_map (other_text l.root) l.name-iterator ≡ l.fn.out.text.items ++ flat_map (other_text l.root) l.definitions.entries
