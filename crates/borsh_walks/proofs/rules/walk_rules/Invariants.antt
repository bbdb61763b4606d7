use Rattle.std.proofs.Common.{◌≡◌, [], length, reverse}
use Rattle.std.specs.BTreeMap.{btree_map_len}
use Rattle.borsh_walks.specs.Container.{references}
use Rattle.borsh_walks.specs.Counts.{counts_of, LooksOn}
use Rattle.borsh_walks.specs.Places.{filled}
use Rattle.borsh_walks.specs.RulesState.{IsBothCount, IsSeen, WalkState}
use Rattle.borsh_walks.proofs.Measure.{left}
use Rattle.borsh_walks.proofs.rules.walk_rules.Given as goal

abbrev pub invariant-loop-spot : goal.invariant-loop-spot
invariant-loop-spot l = record {
  state : WalkState l.fn.counted.map.now l.root [] l.seen.items (reverse l.stack.items) l.table;
  root_seen : IsSeen l.fn.counted.map.now l.seen.items l.root;
  looks : IsBothCount l.counted (filled l.seen.items) (btree_map_len l.table) (counts_of l.fn.counted);
  same : LooksOn l.fn.counted l.counted;
  len : length l.seen.items ≡ btree_map_len l.fn.counted.map.now;
}

abbrev pub decreases-loop-spot : goal.decreases-loop-spot
decreases-loop-spot l = left references l.counted.map.now (filled l.seen.items) (reverse l.stack.items)
