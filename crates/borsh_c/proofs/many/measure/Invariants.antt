use Rattle.std.proofs.Common.{length, ◌-◌, ◌≡◌, ◌≤◌, take}
use Rattle.borsh_plan.specs.Plan.{definitions_of, root_of}
use Rattle.borsh_c.specs.Many.{BeginWithLengths, behind}
use Rattle.borsh_c.proofs.many.measure.Given as goal

abbrev pub invariant-loop-count : goal.invariant-loop-count
invariant-loop-count l = record {
  within : l.count ≤ length l.lengths;
  values : BeginWithLengths (definitions_of l.plan) (root_of l.plan) (take l.count l.lengths) l.bytes;
  rest : l.left ≡ behind (take l.count l.lengths) l.bytes;
}

abbrev pub decreases-loop-count : goal.decreases-loop-count
decreases-loop-count l = length l.initial.lengths - l.count
