-- The first values are answered; each turn takes one.
use Rattle.std.proofs.Common.{◌≡◌}
use Rattle.borsh_walks.specs.Definitions.{definitions_in}
use Rattle.borsh_plan.specs.Plan.{map_of, root_of}
use Rattle.borsh_values.specs.Records.{IsFirst, ahead, limit_of, plan_of, source_of, turns_left}
use Rattle.borsh_json.specs.declared.output.Layout.TheVariants.{Compact}
use Rattle.borsh_tool_commands.specs.Json.{IsJsonLine}
use Rattle.borsh_tool_commands.specs.Many.{most_bytes}
use Rattle.borsh_tool_commands.proofs.ManyLaws.{SoFar}
use Rattle.borsh_tool_commands.proofs.many.decode_records.Given as goal

abbrev pub invariant-loop-records : goal.invariant-loop-records
invariant-loop-records g l = record {
  plan : plan_of l.records ≡ l.many.json.now.plan;
  limit : limit_of l.records ≡ most_bytes;
  so_far : (let map = map_of l.many.json.now.plan.now in let root = root_of l.many.json.now.plan.now in
      SoFar (IsFirst (definitions_in map) root) (IsJsonLine map root Compact) g.W.Write.writing (g.R.Read.stream l.fn.input).bytes (g.R.Read.stream (source_of l.records)).bytes (ahead l.records) l.fn.out l.out l.made.items);
}

abbrev pub decreases-loop-records : goal.decreases-loop-records
decreases-loop-records g l = turns_left g.R.Read.stream l.records
