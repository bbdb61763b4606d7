use Rattle.std.proofs.Common.{◌<◌, ℕ, arith, subst, All}
use Rattle.borsh_json.proofs.DescentLaws.{all_left, cut_lengths}
use Rattle.borsh_json.proofs.order.Pair.take.Goals as goal

pub returns : goal.returns
returns c =
    let P : ℕ → Type 0 = λ b. b < 256 in
    let l = cut_lengths c.args.left c.args.self.now.left.now c.split.result.0.now c.split.result.1.now (let h = c.if-self-left.false in omega (arith, h)) c.split.ensures.cut in
    let r = cut_lengths c.args.right c.args.self.now.right.now c.split-2.result.0.now c.split-2.result.1.now (let h = c.if-self-right.false in omega (arith, h)) c.split-2.ensures.cut in
    (l.1, r.1, all_left P c.split.result.0.now c.split.result.1.now (subst (λ l. All P l) l.0 c.split.ensures.small), all_left P c.split-2.result.0.now c.split-2.result.1.now (subst (λ l. All P l) r.0 c.split-2.ensures.small), l.0, r.0)
