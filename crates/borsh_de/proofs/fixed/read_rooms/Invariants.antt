-- As many elements were read as the list has, and no more than were announced; the room is as long as ever.
use Rattle.std.proofs.Common.{◌≡◌, ◌≤◌, ◌-◌, length}
use Rattle.borsh_codec.proofs.ReadRows.{RowSoFar}
use Rattle.borsh_de.proofs.fixed.read_rooms.Given as goal

abbrev pub invariant-rooms : goal.invariant-rooms
invariant-rooms g l = record {
  so_far : RowSoFar g.row.T.Denot g.T.BorshType.codec (g.R.Read.stream l.fn.reader) (g.R.Read.stream l.reader) l.items.items;
  few : length l.items.items ≤ l.len;
  room : length l.room ≡ g.row.ROOM;
}

abbrev pub decreases-rooms : goal.decreases-rooms
decreases-rooms g l = l.len - length l.items.items
