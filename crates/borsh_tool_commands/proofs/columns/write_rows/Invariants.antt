use Rattle.std.proofs.Common.{◌≡◌}
use Rattle.borsh_json.specs.Rows.{rows_plan}
use Rattle.borsh_tool_commands.specs.Colored.{has_colors}
use Rattle.borsh_tool_commands.proofs.Painting.{PaintedSoFar}
use Rattle.borsh_tool_commands.proofs.columns.write_rows.Given as goal

abbrev pub invariant-loop : goal.invariant-loop
invariant-loop g l = record {
  plan : (rows_plan l.rows).now ≡ l.fn.plan;
  colors : has_colors l.made ≡ l.fn.is_colored;
  so_far : PaintedSoFar g.W.Write.writing l.fn.is_colored l.fn.out l.out;
}
