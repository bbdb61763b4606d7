use Rattle.std.proofs.Common.{◌≡◌}
use Rattle.borsh_json.specs.Rows.{rows_plan}
use Rattle.borsh_tool_commands.proofs.columns.widths_of.Given as goal

abbrev pub invariant-loop : goal.invariant-loop
invariant-loop l = (rows_plan l.rows).now ≡ l.fn.plan
