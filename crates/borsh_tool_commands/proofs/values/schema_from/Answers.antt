use Rattle.borsh.specs.Errors.{error_kind}
use Rattle.borsh_tool_commands.proofs.Failing.{led, none_decoded}
use Rattle.borsh_tool_commands.proofs.values.schema_from.Goals as goal

pub returns-in-Err-clause-err : goal.returns-in-Err-clause-err
returns-in-Err-clause-err c = led _ (none_decoded c.args.bytes.now (error_kind c.in-Err.error) c.in-Err.ensures.err) (λ h. h) (λ h. h) c.no_container.result c.no_container.ensures
