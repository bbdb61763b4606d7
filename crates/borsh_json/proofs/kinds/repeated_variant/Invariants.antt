use Rattle.std.proofs.Common.{◌≡◌, map, take, string_bytes}
use Rattle.borsh_json.proofs.RepeatedLaws.{Text}
use Rattle.borsh_json.proofs.kinds.repeated_variant.Given as goal

abbrev pub invariant-loop-variant : goal.invariant-loop-variant
invariant-loop-variant l = map (λ (n : Text). n.now) l.names.items ≡ take l.variant-index (map (λ f. string_bytes f.1) l.variant-items)
