-- So many values were taken.
use Rattle.std.proofs.Common.{◌≡◌}
use Rattle.borsh_plan.specs.Plan.{definitions_of, root_of}
use Rattle.borsh_values.specs.Records.{ahead, limit_of, plan_of, source_of}
use Rattle.borsh_tool_commands.specs.Many.{most_bytes}
use Rattle.borsh_tool_commands.proofs.ManyLaws.{CountedSoFar}
use Rattle.borsh_tool_commands.proofs.many.count_records.Given as goal

abbrev pub invariant-loop-count : goal.invariant-loop-count
invariant-loop-count g l = record {
  plan : plan_of l.records ≡ l.many.json.now.plan;
  limit : limit_of l.records ≡ most_bytes;
  so_far : CountedSoFar (definitions_of l.many.json.now.plan.now) (root_of l.many.json.now.plan.now) (g.R.Read.stream l.fn.input).bytes (g.R.Read.stream (source_of l.records)).bytes (ahead l.records) l.count;
}
