use Rattle.std.specs.Result.{is_ok}
use Rattle.borsh_tool_commands.proofs.Painting.{grown, of_plain}
use Rattle.borsh_tool_commands.proofs.colors.ColoredText.put.Goals as goal

pub invariant_of-self : goal.invariant_of-self
invariant_of-self c =
    let old = c.args.self.now in
    record { painted = grown (is_ok c.extend_from_slice.result) old.painted (of_plain old.is_colored c.args.text.now c.requires) c.extend_from_slice.ensures.items }
