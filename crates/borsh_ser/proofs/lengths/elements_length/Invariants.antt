-- The elements before the one at hand have so many bytes, and each of them few.
use Rattle.std.proofs.Common.{◌≤◌, ◌*◌, length, take}
use Rattle.borsh_codec.specs.Shapes.{concat_encodings}
use Rattle.borsh_codec.specs.Writing.{IsLength}
use Rattle.borsh_ser.proofs.lengths.elements_length.Given as goal

abbrev pub invariant-loop-item : goal.invariant-loop-item
invariant-loop-item g l = record {
  short : length l.items ≤ 4294967295;
  few : l.sum ≤ l.item-index * 4294967295;
  long : IsLength (concat_encodings g.T.BorshType.codec.encoding (take l.item-index l.items)) l.sum;
}
