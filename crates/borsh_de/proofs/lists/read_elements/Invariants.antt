-- As many elements were read as the list has.
use Rattle.std.proofs.Common.{◌≡◌, length}
use Rattle.borsh_codec.proofs.ReadRows.{RowSoFar}
use Rattle.borsh_de.proofs.lists.read_elements.Given as goal

abbrev pub invariant-loop-i : goal.invariant-loop-i
invariant-loop-i g l = record {
  so_far : RowSoFar g.row.T.Denot g.T.BorshType.codec (g.R.Read.stream l.fn.reader) (g.R.Read.stream l.reader) l.items.items;
  long : length l.items.items ≡ l.i;
}
