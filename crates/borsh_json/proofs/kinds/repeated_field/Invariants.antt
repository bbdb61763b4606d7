use Rattle.std.proofs.Common.{◌≡◌, map, take, string_bytes}
use Rattle.borsh_json.proofs.RepeatedLaws.{Text}
use Rattle.borsh_json.proofs.kinds.repeated_field.Given as goal

abbrev pub invariant-loop-field : goal.invariant-loop-field
invariant-loop-field l = map (λ (n : Text). n.now) l.names.items ≡ take l.field-index (map (λ f. string_bytes f.0) l.field-items)
