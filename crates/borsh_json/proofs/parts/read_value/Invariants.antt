use Rattle.json.specs.{Json.{Json}, Find.{BeginsWith}}
use Rattle.borsh_plan.specs.Plan.{root_of}
use Rattle.borsh_json.specs.Frames.{HasRead}
use Rattle.borsh_json.proofs.parts.read_value.Given as goal

abbrev pub invariant-loop : goal.invariant-loop
invariant-loop l = (j : Json) → BeginsWith l.fn.element j → HasRead l.fn.json (root_of l.fn.json.plan.now) j l.reading
