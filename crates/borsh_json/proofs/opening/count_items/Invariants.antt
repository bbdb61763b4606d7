use Rattle.std.proofs.Common.{◌≡◌, ◌+◌, [], length}
use Rattle.json.specs.{Json.{Items}, Find.{InItems}}
use Rattle.borsh_json.specs.Table.{list_parts}
use Rattle.borsh_json.proofs.opening.count_items.Given as goal

abbrev pub invariant-loop-item : goal.invariant-loop-item
invariant-loop-item l = (js : Items) → InItems l.fn.items js → (rest : Items) × InItems l.items rest × (l.count + length (list_parts [] rest) ≡ length (list_parts [] js))

abbrev pub decreases-loop-item : goal.decreases-loop-item
decreases-loop-item l = length l.items
