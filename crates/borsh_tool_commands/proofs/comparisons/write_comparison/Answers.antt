use Rattle.std.proofs.Common.{subst}
use Rattle.std.specs.Prelude.{string_bytes}
use Rattle.borsh_plan.specs.Plan.{IsPlanOf}
use Rattle.borsh_tool_commands.proofs.Comparing.{included_schemas}
use Rattle.borsh_tool_commands.proofs.comparisons.write_comparison.Goals as goal

pub returns : goal.returns
returns g c = λ e.
    let before = c.in_ok-before.before in
    let after = c.in_ok-after.after in
    let m = c.args.old.now.definitions in
    let n = c.args.new.now.definitions in
    included_schemas before after m n (string_bytes c.args.old.now.root) (string_bytes c.args.new.now.root) (subst (λ x. IsPlanOf m x before) c.as_str.ensures.value c.in_ok-before.ensures) (subst (λ x. IsPlanOf n x after) c.as_str-2.ensures.value c.in_ok-after.ensures)
    (c.is_yes-yes.ensures before after c.in_ok-compared.ensures.answer e)
