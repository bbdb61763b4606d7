use Rattle.std.proofs.Common.{inr, refl}
use Rattle.borsh_tool_commands.proofs.many.placed.Goals as goal

pub returns-in-Ok : goal.returns-in-Ok
returns-in-Ok c = inr (inr (c.in-NotValue.path, c.in-NotValue.why, c.in-Ok.text, c.in-NotValue.is, refl))
