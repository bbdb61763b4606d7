use Rattle.std.proofs.Common.{◌≡◌, ◌-◌, ◌≤◌, ℕ, Some, length, take, map}
use Rattle.std.specs.{BTreeMap.get, Ordering.nat_cmp}
use Rattle.borsh_values.specs.declared.tags.Found.TheVariants.{Nothing}
use Rattle.std.specs.Prelude.{string_bytes}
use Rattle.borsh_values.specs.Tags.{IsTagTable, at_key}
use Rattle.borsh_values.specs.Unambiguous.{DistinctTags}
use Rattle.borsh_values.proofs.unambiguous.has_distinct_tags.Given as goal

abbrev pub invariant-loop-discriminant : goal.invariant-loop-discriminant
invariant-loop-discriminant l = record {
  within : l.index ≤ length l.variants.items;
  table : IsTagTable l.width (take l.index (map (λ v. (v.0, string_bytes v.2)) l.variants.items)) (at_key l.keys);
  some : (n : ℕ) → get nat_cmp l.keys n ≡ Some Nothing → ⊥;
  distinct : DistinctTags l.width (take l.index (map (λ v. (v.0, string_bytes v.2)) l.variants.items));
}

abbrev pub decreases-loop-discriminant : goal.decreases-loop-discriminant
decreases-loop-discriminant l = length l.variants.items - l.index
