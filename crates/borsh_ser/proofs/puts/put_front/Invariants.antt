-- The elements before the one at hand are in the room.
use Rattle.std.proofs.Common.{◌≤◌, ◌-◌, take, length, Some}
use Rattle.borsh_codec.specs.Shapes.{concat_encodings}
use Rattle.borsh_codec.specs.Writing.{Puts}
use Rattle.borsh_ser.proofs.puts.put_front.Given as goal

abbrev pub invariant-loop-count : goal.invariant-loop-count
invariant-loop-count g l = record {
  within : l.count ≤ length l.items;
  puts : Puts (concat_encodings g.T.BorshType.codec.encoding (take l.count l.items)) l.initial.room l.room (Some l.filled);
}

abbrev pub decreases-loop-count : goal.decreases-loop-count
decreases-loop-count g l = length l.items - l.count
