use Rattle.borsh_tool_commands.proofs.Painting.{of_nothing}
use Rattle.borsh_tool_commands.proofs.colors.ColoredText.clear.Goals as goal

pub invariant_of-self : goal.invariant_of-self
invariant_of-self c = record { painted = rw c.clear.ensures.items (of_nothing c.args.self.now.is_colored) }
