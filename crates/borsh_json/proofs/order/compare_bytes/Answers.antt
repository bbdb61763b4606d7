use Rattle.std.proofs.Common.{◌≡◌, ◌∙◌, ◌-◌, suc, drop, subst, arith}
use Rattle.borsh_json.proofs.OrderNumbers.{bytes_cmp, same_cmp, all_dropped, more_dropped, long_low}
use Rattle.borsh_json.proofs.order.compare_bytes.Goals as goal

pub loop-end-init : goal.loop-end-init
loop-end-init c = (omega (arith, c.min-end.ensures), omega (arith, c.min-end.ensures), all_dropped c.min-end.result c.args.left.now c.args.right.now c.min-end.ensures)

pub loop-end-preserved : goal.loop-end-preserved
loop-end-preserved c =
    let v = c.loop-end.invariant in
    (omega (arith, v.0), omega (arith, v.1), λ e. more_dropped c.loop-end.end c.args.left.now c.args.right.now c.loop-end-test.true v.0 v.1 c.if-left-end.false (v.2 e))

pub returns-then-left-end : goal.returns-then-left-end
returns-then-left-end c n y z a b p q =
    let v = c.loop-end.invariant in
    let k : c.loop-end.end ≡ suc (c.loop-end.end - 1) = (let h = c.loop-end-test.true in omega arith) in
    c.cmp.ensures ∙ bytes_cmp n (c.loop-end.end - 1) y z c.args.left.now c.args.right.now a b p q (omega (arith, v.0, c.loop-end-test.true)) (subst (λ m. drop m c.args.left.now ≡ drop m c.args.right.now) k (v.2 (long_low n y z c.args.left.now c.args.right.now p q))) c.if-left-end.true

pub returns : goal.returns
returns c n y z a b p q =
    let v = c.loop-end.invariant in
    let k : c.loop-end.end ≡ 0 = (let h = c.loop-end-test.false in omega arith) in
    same_cmp n y z c.args.left.now c.args.right.now a b p q (subst (λ m. drop m c.args.left.now ≡ drop m c.args.right.now) k (v.2 (long_low n y z c.args.left.now c.args.right.now p q)))
