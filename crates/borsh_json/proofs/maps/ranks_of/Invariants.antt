use Rattle.std.proofs.Common.{length, ◌≤◌}
use Rattle.json.specs.{Json.{Members}, Find.{InMembers}}
use Rattle.borsh_json.specs.Frames.{IsRank}
use Rattle.borsh_json.proofs.MemberLaws.{ArePassed}
use Rattle.borsh_json.proofs.maps.ranks_of.Given as goal

abbrev pub invariant-loop-key : goal.invariant-loop-key
invariant-loop-key l = l.number.size ≤ 16 → (ms : Members) → InMembers l.initial.members ms → ArePassed (IsRank l.number) ms l.members l.found.entries

abbrev pub decreases-loop-key : goal.decreases-loop-key
decreases-loop-key l = length l.members
