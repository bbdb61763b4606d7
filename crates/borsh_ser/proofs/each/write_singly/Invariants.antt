-- The items that came were written, and the others are still to come.
use Rattle.std.proofs.Common.{[]}
use Rattle.borsh_ser.proofs.Items.{ItemsLeft}
use Rattle.borsh_ser.proofs.each.write_singly.Given as goal

abbrev pub invariant-loop-item : goal.invariant-loop-item
invariant-loop-item g l = record {
  can : (goal.iterator-loop-item g).can_next l.items;
  finite : (goal.iterator-loop-item g).is_finite l.items;
  items : ItemsLeft g.I.Iterator.next_gives g.I.Item.BorshType.codec.encoding g.W.Write.writing l.initial.items l.items [] l.initial.writer l.writer;
}
