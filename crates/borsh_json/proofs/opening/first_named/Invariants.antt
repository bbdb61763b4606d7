use Rattle.std.proofs.Common.{◌≤◌, ◌-◌, ℕ, List, map, drop, length, ℤ}
use Rattle.borsh_json.specs.{Forms.{variant_bytes}, Table.{IsVariant}}
use Rattle.borsh_json.proofs.opening.first_named.Given as goal

abbrev pub invariant-loop-tag : goal.invariant-loop-tag
invariant-loop-tag l = record {
  within : l.index ≤ length l.fn.variants.items;
  later : (k : ℤ) (p : List ℕ) → IsVariant k l.fn.name p (map variant_bytes l.fn.variants.items) → IsVariant k l.fn.name p (drop l.index (map variant_bytes l.fn.variants.items));
}

abbrev pub decreases-loop-tag : goal.decreases-loop-tag
decreases-loop-tag l = length l.fn.variants.items - l.index
