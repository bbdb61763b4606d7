use Rattle.std.proofs.Common.{length}
use Rattle.json.specs.{Json.{Members}, Find.{InMembers}}
use Rattle.borsh_json.proofs.MemberLaws.{ArePassedTexts}
use Rattle.borsh_json.proofs.maps.members_of.Given as goal

abbrev pub invariant-loop-key : goal.invariant-loop-key
invariant-loop-key l = (ms : Members) → InMembers l.initial.members ms → ArePassedTexts ms l.members l.found

abbrev pub decreases-loop-key : goal.decreases-loop-key
decreases-loop-key l = length l.members
