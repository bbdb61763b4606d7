use Rattle.std.proofs.Common.{◌≡◌, refl, sym, subst}
use Rattle.borsh_walks.specs.Counts.{definitions_of}
use Rattle.borsh_walks.specs.Container.{IsZeroSize}
use Rattle.borsh_walks.specs.Definitions.{shape_of}
use Rattle.borsh_walks.proofs.RulesLaws.{breaks, breaks_zero, keeps_all}
use Rattle.borsh_walks.proofs.Counting.{on_err}
use Rattle.borsh_walks.proofs.ZeroExits.{counted_same, counted_by}
use Rattle.borsh_walks.proofs.rules.broken_rule.Goals as goal

pub returns-in-Some-clause-answer : goal.returns-in-Some-clause-answer
returns-in-Some-clause-answer c = λ x e. breaks (definitions_of c.args.counted.now) (shape_of c.args.definition.now) e _ c.in-Some.ensures

pub returns-in-Some-clause-counts : goal.returns-in-Some-clause-counts
returns-in-Some-clause-counts c = counted_same _ c.requires refl

pub returns-then-branch-clause-answer : goal.returns-then-branch-clause-answer
returns-then-branch-clause-answer c = λ x e. breaks_zero (definitions_of c.args.counted.now) (shape_of c.args.definition.now) e (sym c.in-Some-element_to_check.ensures) (c.in_ok-is_zero.ensures.answer.0 c.if-branch.true)

pub returns-else-branch-clause-answer : goal.returns-else-branch-clause-answer
returns-else-branch-clause-answer c = λ x e r b.
    keeps_all (definitions_of c.args.counted.now) (shape_of c.args.definition.now) e c.in_default.ensures
    (λ p h z. let q : c.in-Some-element_to_check.element.now ≡ p = (let a = c.in-Some-element_to_check.ensures in cc) in
    let w = c.in_ok-is_zero.ensures.answer.1 (subst (λ y. IsZeroSize (definitions_of c.args.counted.now) y) (sym q) z) in let n = c.if-branch.false in cc) r b

pub returns-in_default-element_to_check-clause-counts : goal.returns-in_default-element_to_check-clause-counts
returns-in_default-element_to_check-clause-counts c = counted_same _ c.requires refl

pub returns-then-branch-clause-counts : goal.returns-then-branch-clause-counts
returns-then-branch-clause-counts c = let k = c.in_ok-is_zero.ensures.counts in counted_by _ k (λ x l. (c.in-Some-element_to_check.element.now, sym c.in-Some-element_to_check.ensures, l)) k.all

pub returns-else-branch-clause-counts : goal.returns-else-branch-clause-counts
returns-else-branch-clause-counts c = let k = c.in_ok-is_zero.ensures.counts in counted_by _ k (λ x l. (c.in-Some-element_to_check.element.now, sym c.in-Some-element_to_check.ensures, l)) k.all

pub returns-in_err-is_zero-clause-counts : goal.returns-in_err-is_zero-clause-counts
returns-in_err-is_zero-clause-counts c = let k = c.in_err-is_zero.ensures.counts in counted_by _ k (λ x l. (c.in-Some-element_to_check.element.now, sym c.in-Some-element_to_check.ensures, l)) (on_err _ c.from_residual.result c.from_residual.ensures.0)
