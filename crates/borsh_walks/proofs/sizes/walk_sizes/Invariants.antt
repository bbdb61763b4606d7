use Rattle.std.proofs.Common.{◌≡◌, ℕ, List, ◌∷◌, length, reverse}
use Rattle.std.specs.BTreeMap.{btree_map_len}
use Rattle.borsh_walks.specs.Counts.{counts_of, definitions_of, LooksOn, add_to}
use Rattle.borsh_walks.specs.declared.counted.Question.TheVariants.{Size}
use Rattle.borsh_walks.specs.Container.{size_references}
use Rattle.borsh_walks.specs.Places.{filled, mark_by}
use Rattle.borsh_walks.proofs.Measure.{left}
use Rattle.borsh_walks.proofs.SizeWalk.{AllPlaced, AllSmall, spots_of, State}
use Rattle.borsh_walks.proofs.sizes.walk_sizes.Given as goal

abbrev pub invariant-loop-part : goal.invariant-loop-part
invariant-loop-part l = record {
  names : List (List ℕ);
  state : State (definitions_of l.fn.counted) l.root (mark_by l.fn.counted.map.now.entries l.marks.items) (reverse l.stack.items) l.frame names;
  looks : counts_of l.counted ≡ add_to Size (length names) (counts_of l.fn.counted);
  same : LooksOn l.fn.counted l.counted;
  marked : filled l.marks.items ≡ length names;
  len : length l.marks.items ≡ btree_map_len l.fn.counted.map.now;
  placed : AllPlaced l.fn.counted.map.now.entries (l.frame ∷ reverse l.stack.items);
  small : AllSmall (reverse l.stack.items);
}

abbrev pub decreases-loop-part : goal.decreases-loop-part
decreases-loop-part l = left size_references l.counted.map.now (filled l.marks.items) (spots_of (l.frame ∷ reverse l.stack.items))
