-- The sum is that of the count and the items that came, and the others are still to come.
use Rattle.borsh_ser.proofs.ItemLengths.{LengthLeft}
use Rattle.borsh_ser.proofs.lengths.keyed_length.Given as goal

abbrev pub invariant-loop-item : goal.invariant-loop-item
invariant-loop-item g l = record {
  can : (goal.iterator-loop-item g).can_next l.items;
  finite : (goal.iterator-loop-item g).is_finite l.items;
  sum : LengthLeft g.I.Iterator.next_gives g.I.Item.BorshType.codec.encoding l.count l.initial.items l.items l.sum;
}
