use Rattle.std.proofs.Common.{subst}
use Rattle.std.proofs.lemmas.Result.{IfErr-weaker, IfOk-weaker}
use Rattle.borsh_plan.specs.Plan.{IsPlanOf}
use Rattle.borsh_compare.specs.Walks.{IsStillRead}
use Rattle.borsh_c.specs.Pairs.{AreAny, IsLost, IsOneMalformed, NoText}
use Rattle.borsh_c.proofs.Two.{refuses_more, two_told}
use Rattle.borsh_c.proofs.pairs.comparison_of.Goals as goal

pub returns-clause-ok : goal.returns-clause-ok
returns-clause-ok c =
    let old = c.in_ok-old.old in
    let new = c.in_ok-new.new in
    let before = subst (λ x. IsPlanOf old.1 x c.in_ok-before.before) c.as_str.ensures.value c.in_ok-before.ensures in
    let after = subst (λ x. IsPlanOf new.1 x c.in_ok-after.after) c.as_str-2.ensures.value c.in_ok-after.ensures in
    IfOk-weaker c.compared_text.result _ _ (λ text r. (r.0, two_told IsStillRead old new c.in_ok-old.ensures.ok c.in_ok-new.ensures.ok c.in_ok-before.before c.in_ok-after.after before after r.1)) c.compared_text.ensures.ok

pub returns-clause-err : goal.returns-clause-err
returns-clause-err c =
    let old = c.in_ok-old.old in
    let new = c.in_ok-new.new in
    let before = subst (λ x. IsPlanOf old.1 x c.in_ok-before.before) c.as_str.ensures.value c.in_ok-before.ensures in
    let after = subst (λ x. IsPlanOf new.1 x c.in_ok-after.after) c.as_str-2.ensures.value c.in_ok-after.ensures in
    IfErr-weaker c.compared_text.result _ _
    (λ e. refuses_more {M = NoText} {K = IsOneMalformed c.args.old_schema.now c.args.new_schema.now} (λ text n. absurd n)
    (two_told IsLost old new c.in_ok-old.ensures.ok c.in_ok-new.ensures.ok c.in_ok-before.before c.in_ok-after.after before after)
    (two_told AreAny old new c.in_ok-old.ensures.ok c.in_ok-new.ensures.ok c.in_ok-before.before c.in_ok-after.after before after) e)
    c.compared_text.ensures.err
