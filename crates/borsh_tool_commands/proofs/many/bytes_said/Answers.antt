use Rattle.std.proofs.Common.{ℕ, List, subst}
use Rattle.borsh_json.specs.Forms.{forms_in}
use Rattle.borsh_plan.specs.Plan.{map_of, root_of}
use Rattle.borsh_json.specs.InOrder.{TextRepresents}
use Rattle.borsh_tool_commands.proofs.many.bytes_said.Goals as goal

pub returns-in-Ok-from_json : goal.returns-in-Ok-from_json
returns-in-Ok-from_json c =
    let l = c.args.many.now.json.now.plan.now in
    let s = c.in-Ok-from_json.ensures.says in
    subst (λ (text : List ℕ). TextRepresents (forms_in (map_of l)) (root_of l) text c.in-Ok-from_json.bytes.items) c.in-Ok.ensures.cases.0 (s.0, s.1, s.2, s.3, c.in-Ok-from_json.ensures.in_order s.0 s.1)
