use Rattle.std.proofs.Common.{◌-◌, ◌≤◌, length, take}
use Rattle.borsh_walks.specs.Container.{references}
use Rattle.borsh_walks.specs.Definitions.{shape_of}
use Rattle.borsh_walks.specs.Tables.{mark_of}
use Rattle.borsh_plan.specs.Names.{AreParts, Grows, IsIndex, IsPartOf}
use Rattle.borsh_plan.proofs.names.parts_of.Given as goal

abbrev pub invariant-loop-part : goal.invariant-loop-part
invariant-loop-part l = record {
  index : IsIndex l.map l.names.items (mark_of l.places);
  parts : AreParts l.names.items l.parts.items (take l.next (references (shape_of l.definition)));
  within : l.next ≤ length (references (shape_of l.definition));
  grown : Grows (IsPartOf (references (shape_of l.definition)) l.from) l.next l.fn.names.items l.names.items;
}

abbrev pub decreases-loop-part : goal.decreases-loop-part
decreases-loop-part l = length (references (shape_of l.definition)) - l.next
