use Rattle.std.proofs.lemmas.Result.{IfOk-weaker}
use Rattle.borsh_tool_commands.proofs.Failing.{led_result}
use Rattle.borsh_tool_commands.proofs.values.schema_json.Goals as goal

pub returns-clause-ok : goal.returns-clause-ok
returns-clause-ok c = IfOk-weaker c.json_text.result _ _ (λ t j. ((c.in_ok-_schema._schema, c.in_ok-_schema.ensures.ok), (c.in_ok-own.own, c.in_ok-own.ensures.ok, j))) c.json_text.ensures.ok

pub returns-clause-err : goal.returns-clause-err
returns-clause-err c = led_result _ (λ h. absurd h) (λ h. ((c.in_ok-_schema._schema, c.in_ok-_schema.ensures.ok), (c.in_ok-own.own, c.in_ok-own.ensures.ok, h))) (λ h. h) c.json_text.result c.json_text.ensures.err
