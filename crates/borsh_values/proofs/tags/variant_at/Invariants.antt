use Rattle.std.proofs.Common.{◌≡◌, ℕ, ◌-◌, ◌≤◌, List, length, take, map, ℤ}
use Rattle.std.specs.Prelude.{string_bytes}
use Rattle.borsh_walks.specs.Container.{IsListedVariant, tag}
use Rattle.borsh_values.proofs.tags.variant_at.Given as goal

abbrev pub invariant-loop-discriminant : goal.invariant-loop-discriminant
invariant-loop-discriminant l = record { within : l.index ≤ length l.variants.items; none : (k : ℤ) (p : List ℕ) → IsListedVariant k p (take l.index (map (λ v. (v.0, string_bytes v.2)) l.variants.items)) → tag (length l.bytes) k ≡ l.bytes → ⊥ }

abbrev pub decreases-loop-discriminant : goal.decreases-loop-discriminant
decreases-loop-discriminant l = length l.variants.items - l.index
