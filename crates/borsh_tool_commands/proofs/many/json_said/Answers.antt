use Rattle.borsh_tool_commands.proofs.TextLaws.{json-answered}
use Rattle.borsh_tool_commands.proofs.many.json_said.Goals as goal

pub returns-in-Ok : goal.returns-in-Ok
returns-in-Ok c = json-answered c.args.many.now.json.now.plan.now c.args.many.now.path.now c.args.digits.now c.in-Ok.bytes.items c.as_slice.result.now c.in-Ok.ensures.ok c.as_slice.ensures.value c.json_line.result c.json_line.ensures.ok c.json_line.ensures.err
