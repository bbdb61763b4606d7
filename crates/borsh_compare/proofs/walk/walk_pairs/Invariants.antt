use Rattle.std.proofs.Common.{◌≡◌, ◌-◌, ◌≤◌, length, true, false}
use Rattle.borsh_compare.specs.Corresponding.{Inside, RootsCorrespond}
use Rattle.borsh_compare.specs.Walks.{HasPair}
use Rattle.borsh_compare.proofs.Included.{GoBelow}
use Rattle.borsh_compare.proofs.walk.walk_pairs.Given as goal

abbrev pub invariant-loop-next : goal.invariant-loop-next
invariant-loop-next l = record {
  first : l.is_whole ≡ true → HasPair l.pairs.list.items 0 0;
  go : l.is_whole ≡ true → GoBelow l.old l.new l.pairs.list.items l.next;
  reached : l.next ≤ length l.pairs.list.items;
  stays : (r : RootsCorrespond l.old l.new) → Inside l.old l.new r.pairs l.pairs.list.items × (l.is_whole ≡ false → 1048576 ≤ length l.pairs.list.items);
}

abbrev pub decreases-loop-next : goal.decreases-loop-next
decreases-loop-next l = 1048576 - l.next
