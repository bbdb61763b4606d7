use Rattle.std.proofs.Common.{◌≡◌, take, map}
use Rattle.borsh_json.specs.{Frames.{steps_through}, NoValue.{step_of}}
use Rattle.borsh_json.proofs.position.Position.path_to_place.Given as goal

abbrev pub invariant-loop-place : goal.invariant-loop-place
invariant-loop-place l = map step_of l.steps.items ≡ steps_through (take l.place-index l.place-items)
