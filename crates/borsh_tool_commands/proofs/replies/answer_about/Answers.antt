use Rattle.borsh_tool_commands.proofs.replies.answer_about.Goals as goal

pub returns-clause-ok : goal.returns-clause-ok
returns-clause-ok c = (c.in_ok-schema.schema, c.in_ok-schema.ensures.ok, c.in_ok-answer_to.ensures)
