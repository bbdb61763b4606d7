use Rattle.std.proofs.Common.{◌∙◌, ◌<◌, length, sym, subst, arith}
use Rattle.borsh_walks.specs.Definitions.{shape_of}
use Rattle.borsh_plan.specs.Plan.{definitions_of, names_of, root_of}
use Rattle.borsh_plan.specs.Names.{name_at}
use Rattle.borsh_plan.proofs.Laws.{defined, defined_at, has_place, of_plan, reached}
use Rattle.borsh_plan.proofs.Places.{name_is, name_there}
use Rattle.borsh_values.specs.Membership.{IsAmbiguousName}
use Rattle.borsh_values.specs.Unambiguous.{IsUnambiguous}
use Rattle.borsh_values.proofs.unambiguous.find_ambiguous.Goals as goal

pub returns-in-loop-at : goal.returns-in-loop-at
returns-in-loop-at c =
    let l = c.in_ok-plan.plan in
    let C = definitions_of l in
    let at = c.loop-at.at in
    let x = name_at (names_of l) at in
    let low : at < length (names_of l) = (let h = c.loop-at-test.true in let n = c.len.ensures in omega (arith, h, n)) in
    let f = c.if-not-branch.true in
    let found : IsAmbiguousName C (root_of l) x = (shape_of c.in-Some.definition.now, reached l x at (name_there (names_of l) at low), defined_at l at low ∙ sym c.in-Some.ensures.shape, λ u. (let t = c.in_ok-is_unambiguous_definition.ensures.1 u in cc)) in
    of_plan (λ C root. IsAmbiguousName C root c.name.result.now) c.in_ok-plan.ensures (subst (λ y. IsAmbiguousName C (root_of l) y) (sym c.name.ensures) found)

pub returns : goal.returns
returns c =
    let l = c.in_ok-plan.plan in
    of_plan (λ C root. IsUnambiguous C root) c.in_ok-plan.ensures λ x d r e.
    let p = has_place l r in
    let n = name_is (names_of l) p.0 x p.1 in
    let low : p.0 < c.loop-at.at = (let h = c.loop-at-test.false in let k = c.len.ensures in let b = n.0 in omega (arith, h, k, b)) in
    c.loop-at.invariant p.0 d low (sym (defined l x p.0 p.1) ∙ e)
