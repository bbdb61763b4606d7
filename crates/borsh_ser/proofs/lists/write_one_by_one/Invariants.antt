-- All before the element at hand was written.
use Rattle.std.proofs.Common.{drop}
use Rattle.borsh_codec.specs.Shapes.{concat_encodings}
use Rattle.borsh_codec.proofs.WriteSteps.{WritesSoFar}
use Rattle.borsh_ser.proofs.lists.write_one_by_one.Given as goal

abbrev pub invariant-loop-item : goal.invariant-loop-item
invariant-loop-item g l =
    let f = g.T.BorshType.codec.encoding in
    WritesSoFar g.W.Write.writing l.initial.writer l.writer (concat_encodings f l.items) (concat_encodings f (drop l.item-index l.items))
