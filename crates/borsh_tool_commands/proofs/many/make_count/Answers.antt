use Rattle.std.proofs.Common.{rules, ◌≡◌, sym, subst}
use Rattle.borsh_plan.specs.Plan.{definitions_of, root_of}
use Rattle.borsh_tool_commands.specs.Many.{IsCount}
use Rattle.borsh_tool_commands.proofs.many.make_count.Goals as goal

pub returns-clause-ok : goal.returns-clause-ok
returns-clause-ok g c =
    let l = c.args.many.now.json.now.plan.now in
    let e : c.extend_from_slice.new.self.items ≡ c.in_ok-is_yes.field-0.text.text.items = search rules in
    subst (IsCount (definitions_of l) (root_of l) (g.R.Read.stream c.args.input).bytes c.in_ok-is_yes.field-0.is_yes) (sym e) c.in_ok-is_yes.ensures.ok
