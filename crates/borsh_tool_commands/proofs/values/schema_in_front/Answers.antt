use Rattle.borsh.specs.Errors.{error_kind}
use Rattle.borsh_tool_commands.proofs.Failing.{led, none_in_front}
use Rattle.borsh_tool_commands.proofs.Sending.{sent}
use Rattle.borsh_tool_commands.proofs.values.schema_in_front.Goals as goal

pub returns-in-Ok-clause-ok : goal.returns-in-Ok-clause-ok
returns-in-Ok-clause-ok c = sent (record { root = c.in-Ok.root; definitions = c.in-Ok.definitions }) c.deserialize-decoded.new.buf.now c.args.bytes.now c.in-Ok.ensures.ok

pub returns-in-Err-clause-err : goal.returns-in-Err-clause-err
returns-in-Err-clause-err c =
    led _ (none_in_front c.args.bytes.now c.deserialize-decoded.new.buf.now (error_kind c.in-Err.error) c.in-Err.ensures.err) (λ h. h) (λ h. h) c.no_container.result c.no_container.ensures
