-- What comes before the index was added.
use Rattle.std.proofs.Common.{◌≡◌, ◌++◌, codes, flat_map, take}
use Rattle.borsh_tool_commands.specs.Definitions.{part_text}
use Rattle.borsh_tool_commands.proofs.definitions.push_other_parts.Given as goal

abbrev pub invariant-loop-part : goal.invariant-loop-part
invariant-loop-part l = l.out.text.items ≡ l.fn.out.text.items ++ flat_map (λ p. codes ", " ++ part_text p) (take l.part-index l.parts)
