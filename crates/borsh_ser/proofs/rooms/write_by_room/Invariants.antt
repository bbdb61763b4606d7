-- All before the element at hand was written.
use Rattle.std.proofs.Common.{◌≤◌, ◌-◌, drop, length}
use Rattle.borsh_codec.specs.Shapes.{concat_encodings}
use Rattle.borsh_codec.proofs.WriteSteps.{WritesSoFar}
use Rattle.borsh_ser.proofs.rooms.write_by_room.Given as goal

abbrev pub invariant-loop-next : goal.invariant-loop-next
invariant-loop-next g l =
    let f = g.T.BorshType.codec.encoding in
    record {
      within : l.next ≤ length l.items;
      so_far : WritesSoFar g.W.Write.writing l.initial.writer l.writer (concat_encodings f l.items) (concat_encodings f (drop l.next l.items));
    }

abbrev pub decreases-loop-next : goal.decreases-loop-next
decreases-loop-next g l = length l.items - l.next
