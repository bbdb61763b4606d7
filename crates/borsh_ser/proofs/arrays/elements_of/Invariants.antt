use Rattle.std.proofs.Common.{◌≡◌, ℕ, ◌<◌, length, get_or, []}
use Rattle.borsh_ser.proofs.arrays.elements_of.Given as goal

abbrev pub invariant-loop-array : goal.invariant-loop-array
invariant-loop-array g l = (i : ℕ) → i < l.array-index → length (get_or l.fn.arrays i []) ≡ g.row.N
