use Rattle.borsh_tool_commands.proofs.Failing.{led}
use Rattle.borsh_tool_commands.proofs.many.json_line.Goals as goal

pub returns-in-Err-clause-err : goal.returns-in-Err-clause-err
returns-in-Err-clause-err c =
    led _ (λ h. h) (λ n. (c.in-Err.error, (c.in-Err.ensures.reason, c.in-Err.ensures.refused), n)) (λ h. h) c.no_value.result c.no_value.ensures
