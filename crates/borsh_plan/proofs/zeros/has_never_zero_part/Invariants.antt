use Rattle.std.proofs.Common.{◌-◌, length}
use Rattle.borsh_plan.specs.Names.{parts_in, shape_at}
use Rattle.borsh_plan.proofs.zeros.has_never_zero_part.Given as goal

abbrev pub decreases-loop-part : goal.decreases-loop-part
decreases-loop-part l = length (parts_in (shape_at l.names.names.items l.at)) - l.index
