use Rattle.std.proofs.Common.{◌≡◌, ℕ, List, ◌∷◌, length, reverse, None, ◌⊎◌}
use Rattle.std.specs.BTreeMap.{btree_map_len}
use Rattle.borsh_walks.specs.Container.{Reaches}
use Rattle.borsh_walks.specs.Counts.{definitions_of, LooksOn}
use Rattle.borsh_walks.specs.declared.counted.Expansions.{Expansions}
use Rattle.borsh_walks.specs.ZeroAnswer.{zero_size_parts, IsZeroCount}
use Rattle.borsh_walks.specs.Tables.{mark_of, IsMarked}
use Rattle.borsh_walks.proofs.Measure.{left}
use Rattle.borsh_walks.proofs.ZeroWalk.{ZeroState}
use Rattle.borsh_walks.proofs.zero.is_zero.Given as goal

abbrev pub invariant-loop-spot : goal.invariant-loop-spot
invariant-loop-spot l = record {
  names : List (List ℕ);
  state : ZeroState (definitions_of l.fn.counted) l.name (mark_of l.table) (reverse l.stack.items) l.spot names;
  gained : (x : List ℕ) → IsMarked l.table x → IsMarked l.fn.table x ⊎ Reaches (definitions_of l.fn.counted) zero_size_parts l.name x;
  looks : (base : Expansions) → IsZeroCount l.fn.counted (btree_map_len l.fn.table) base → IsZeroCount l.counted (length names) base;
  same : LooksOn l.fn.counted l.counted;
  table_len : btree_map_len l.table ≡ length names;
  stay : (x : List ℕ) → (mark_of l.fn.table x ≡ None → ⊥) → mark_of l.table x ≡ None → ⊥;
  name_marked : mark_of l.table l.name ≡ None → ⊥;
}

abbrev pub decreases-loop-spot : goal.decreases-loop-spot
decreases-loop-spot l = left zero_size_parts l.counted.map.now (btree_map_len l.table) (l.spot ∷ reverse l.stack.items)
