use Rattle.std.proofs.Common.{◌-◌, length, take}
use Rattle.borsh_plan.specs.{Names.parts_in, Names.shape_at, Plan.definitions_of, Plan.names_of}
use Rattle.borsh_values.specs.Free.{AreFirst}
use Rattle.borsh_values.proofs.runs.parts_length.Given as goal

abbrev pub invariant-loop-part : goal.invariant-loop-part
invariant-loop-part l = AreFirst (definitions_of l.plan) (take l.index (parts_in (shape_at (names_of l.plan) l.at))) l.left l.taken

abbrev pub decreases-loop-part : goal.decreases-loop-part
decreases-loop-part l = length (parts_in (shape_at (names_of l.plan) l.at)) - l.index
