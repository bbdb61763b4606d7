use Rattle.std.proofs.Common.{◌≡◌, ◌≤◌, ◌-◌, length, drop, map, string_bytes}
use Rattle.borsh_json.specs.Ordered.{variant_of}
use Rattle.borsh_json.proofs.order.variant_with.Given as goal

abbrev pub invariant-loop-discriminant : goal.invariant-loop-discriminant
invariant-loop-discriminant l = (l.index ≤ length l.variants.items) × (variant_of l.tag (map (λ v. (v.0, string_bytes v.2)) l.variants.items) ≡ variant_of l.tag (drop l.index (map (λ v. (v.0, string_bytes v.2)) l.variants.items)))

abbrev pub decreases-loop-discriminant : goal.decreases-loop-discriminant
decreases-loop-discriminant l = length l.variants.items - l.index
