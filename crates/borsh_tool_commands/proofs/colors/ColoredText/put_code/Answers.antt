use Rattle.std.specs.Result.{is_ok}
use Rattle.borsh_tool_commands.proofs.Painting.{grown, of_code}
use Rattle.borsh_tool_commands.proofs.colors.ColoredText.put_code.Goals as goal

pub invariant_of-self : goal.invariant_of-self
invariant_of-self c =
    record { painted = grown (is_ok c.extend_from_slice.result) c.args.self.now.painted (of_code c.args.color c.requires) (rw (← c.color_digit.ensures) c.extend_from_slice.ensures.items) }
