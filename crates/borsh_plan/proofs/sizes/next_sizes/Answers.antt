use Rattle.std.proofs.Common.{◌≡◌, [], ◌∷◌, length, length-append, sym, ◌∙◌, ap, subst, arith}
use Rattle.borsh_plan.specs.Names.{shape_at}
use Rattle.borsh_plan.specs.Sizes.{known_by}
use Rattle.borsh_plan.proofs.SizesLaws.{Answered, SizedBy, answered_none, answered_more, answered_all}
use Rattle.borsh_plan.proofs.sizes.next_sizes.Goals as goal

pub loop-at-init : goal.loop-at-init
loop-at-init c =
    let e = c.in_ok-found.ensures.items in
    record {
      at = sym (ap (λ q. length q) e);
      sized = λ P sizes. answered_none 0 (SizedBy P c.args.names.now.names.items) c.in_ok-found.found.items e;
    }

pub loop-at-preserved : goal.loop-at-preserved
loop-at-preserved c =
    let ns = c.args.names.now.names.items in
    let zs = c.loop-at.found.items in
    let size = c.size_of_name-size.result in
    let e = c.in_ok-push.ensures.items in
    let n = ap (λ q. length q) e ∙ length-append zs (size ∷ []) in
    let i = c.loop-at.invariant.at in
    record {
      at = omega (arith, n, i);
      sized = λ P sizes. subst (λ q. Answered 0 (SizedBy P ns) q) (sym e) (answered_more 0 (SizedBy P ns) zs size (c.loop-at.invariant.sized P sizes) (subst (λ k. size ≡ known_by P (shape_at ns k)) i (c.size_of_name-size.ensures P sizes)));
    }

pub returns : goal.returns
returns c = λ P sizes.
    let l = c.args.names.now in
    let i = c.loop-at.invariant.at in
    let n = c.len-count.ensures in
    let k = l.names.ok.0 in
    let s = c.loop-at-test.false in
    answered_all 0 (SizedBy P l.names.items) c.loop-at.found.items (length l.names.items) (omega (arith, i, n, k, s)) (c.loop-at.invariant.sized P sizes)
