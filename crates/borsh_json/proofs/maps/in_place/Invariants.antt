use Rattle.json.specs.{Json.{Members}, Find.{InMembers}}
use Rattle.borsh_json.proofs.MapLaws.{IsRising}
use Rattle.borsh_json.proofs.maps.in_place.Given as goal

abbrev pub invariant-loop-count : goal.invariant-loop-count
invariant-loop-count l = (ms : Members) → InMembers l.initial.members ms → IsRising ms l.members l.earlier l.count
