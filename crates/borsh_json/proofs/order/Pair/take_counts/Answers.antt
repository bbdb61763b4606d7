use Rattle.std.proofs.Common.{◌∙◌, ◌++◌, ap}
use Rattle.borsh_json.proofs.OrderLaws.{count_there}
use Rattle.borsh_json.proofs.order.Pair.take_counts.Goals as goal

pub returns : goal.returns
returns c w =
    let t = c.in_ok-left.ensures in
    let l = count_there c.args.width c.in_ok-left.left.now c.count_in.result w t.0 t.2 c.count_in.ensures.one c.count_in.ensures.four in
    let r = count_there c.args.width c.in_ok-left.right.now c.count_in-2.result w t.1 t.3 c.count_in-2.ensures.one c.count_in-2.ensures.four in
    (l.0, r.0, t.4 ∙ ap (λ b. b ++ c.take.new.self.left.now) l.1, t.5 ∙ ap (λ b. b ++ c.take.new.self.right.now) r.1)
