use Rattle.borsh_tool_commands.proofs.Painting.{of_nothing}
use Rattle.borsh_tool_commands.proofs.colors.ColoredText.new.Goals as goal

pub invariant_of-result : goal.invariant_of-result
invariant_of-result c = record { painted = rw c.new.ensures.items (of_nothing c.args.is_colored) }
