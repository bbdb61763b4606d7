-- The elements that were moved, and those that are left.
use Rattle.std.proofs.Common.{◌≡◌, ◌++◌}
use Rattle.std.specs.Vec.Iter.{into_iter_items}
use Rattle.borsh_de.proofs.lists.LinkedListBorshDeserialize.deserialize_reader.Given as goal

abbrev pub invariant-loop-item : goal.invariant-loop-item
invariant-loop-item g l = l.list ++ into_iter_items l.item-iterator ≡ into_iter_items l.initial.item-iterator
