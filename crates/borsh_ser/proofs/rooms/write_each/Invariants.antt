-- The items that came were written or are in the room, and the others are still to come.
use Rattle.std.proofs.Common.{◌≤◌, length, take}
use Rattle.borsh_ser.proofs.Items.{ItemsLeft}
use Rattle.borsh_ser.proofs.rooms.write_each.Given as goal

abbrev pub invariant-loop-item : goal.invariant-loop-item
invariant-loop-item g l = record {
  within : l.filled ≤ length l.room;
  can : (goal.iterator-loop-item g).can_next l.items;
  finite : (goal.iterator-loop-item g).is_finite l.items;
  items : ItemsLeft g.I.Iterator.next_gives g.I.Item.BorshType.codec.encoding g.W.Write.writing l.initial.items l.items (take l.filled l.room) l.initial.writer l.writer;
}
