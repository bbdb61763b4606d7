use Rattle.std.proofs.Common.{map, take, string_bytes}
use Rattle.json.specs.{Json.{Members}, Find.{InMembers}}
use Rattle.borsh_json.proofs.FieldLaws.{ArePast}
use Rattle.borsh_json.proofs.maps.fields_in_place.Given as goal

abbrev pub invariant-loop-field : goal.invariant-loop-field
invariant-loop-field l = (ms : Members) → InMembers l.initial.members ms → ArePast (take l.field-index (map (λ f. string_bytes f.0) l.field-items)) ms l.members
