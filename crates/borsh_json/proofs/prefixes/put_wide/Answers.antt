use Rattle.std.proofs.Common.{◌≡◌, ◌-◌, ◌∙◌, ◌++◌, ap, arith, min, replicate, take}
use Rattle.borsh_json.proofs.NumberLaws.{fill_more}
use Rattle.borsh_json.proofs.prefixes.put_wide.Goals as goal

pub loop-preserved : goal.loop-preserved
loop-preserved c =
    let low = c.loop.auto.counter in
    (fill_more c.loop.out.items c.push.new.self.items (c.args.out.now.items ++ take (min c.args.width 8) c.args.bytes) c.loop.counter c.args.fill (omega arith) c.loop.invariant.0 c.in_ok-push.ensures.items, omega arith)

pub returns : goal.returns
returns c =
    let low = c.loop.auto.counter in
    let high = c.loop.invariant.1 in
    let e : c.loop.counter - 8 ≡ c.args.width - 8 = omega arith in
    c.loop.invariant.0 ∙ ap (λ k. c.args.out.now.items ++ take (min c.args.width 8) c.args.bytes ++ replicate k c.args.fill) e
