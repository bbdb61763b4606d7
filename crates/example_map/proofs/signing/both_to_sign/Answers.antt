use Rattle.std.proofs.Common.{Some, ap, ◌∙◌}
use Rattle.example_map.proofs.signing.both_to_sign.Goals as goal

pub returns : goal.returns
returns g c same =
    (g.met.T.BorshKey.key c.args.first.now c.args.second.now).1 (c.in_ok-others.ensures.unique c.args.first.now (c.in_ok-bytes.ensures.ok ∙ ap (λ x. Some x) same))
