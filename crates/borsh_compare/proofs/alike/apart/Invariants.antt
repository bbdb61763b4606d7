use Rattle.std.proofs.Common.{◌≡◌, ℕ, ◌<◌, [], Some}
use Rattle.std.specs.Prelude.{slice_get}
use Rattle.borsh_compare.specs.Alike.{GoAlikeAt}
use Rattle.borsh_compare.specs.declared.pairs.Pair.{Pair}
use Rattle.borsh_compare.proofs.alike.apart.Given as goal

abbrev pub invariant-loop-index : goal.invariant-loop-index
invariant-loop-index l = l.found.items ≡ [] → (i : ℕ) (p : Pair) → i < l.index → slice_get l.pairs.list.items i ≡ Some p → GoAlikeAt l.old.plan.now l.new.plan.now l.pairs.list.items p.old p.new
