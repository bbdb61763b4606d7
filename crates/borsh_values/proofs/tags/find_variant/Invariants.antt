use Rattle.std.proofs.Common.{◌-◌, ◌≤◌, length, take, map}
use Rattle.std.specs.Prelude.{string_bytes}
use Rattle.borsh_values.specs.Tags.{FoundAs}
use Rattle.borsh_values.proofs.tags.find_variant.Given as goal

abbrev pub invariant-loop-discriminant : goal.invariant-loop-discriminant
invariant-loop-discriminant l = record { within : l.index ≤ length l.variants.items; found : FoundAs (take l.index (map (λ v. (v.0, string_bytes v.2)) l.variants.items)) l.bytes l.found }

abbrev pub decreases-loop-discriminant : goal.decreases-loop-discriminant
decreases-loop-discriminant l = length l.variants.items - l.index
