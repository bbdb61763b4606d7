use Rattle.std.proofs.Common.{length, ◌-◌, ◌≡◌, ◌≤◌, take}
use Rattle.borsh_plan.specs.Plan.{map_of, root_of}
use Rattle.borsh_c.specs.Many.{HaveLines, behind}
use Rattle.borsh_c.proofs.many.write_lines.Given as goal

abbrev pub invariant-loop-count : goal.invariant-loop-count
invariant-loop-count l = record {
  within : l.count ≤ length l.lengths;
  lines : HaveLines l.fn.style.long_numbers (map_of l.json.plan.now) (root_of l.json.plan.now) (take l.count l.lengths) l.values l.text.items;
  rest : l.left ≡ behind (take l.count l.lengths) l.values;
}

abbrev pub decreases-loop-count : goal.decreases-loop-count
decreases-loop-count l = length l.lengths - l.count
