use Rattle.std.proofs.Common.{true, subst}
use Rattle.std.proofs.lemmas.Result.{IfOk-weaker}
use Rattle.example_map.proofs.signing.value_at_receiver.Goals as goal

pub returns : goal.returns
returns g c =
    let codec = g.T.BorshType.codec in
    IfOk-weaker c.signed_value.result _ _
    (λ theirs d. g.met.T.BorshType.lawful.unambiguous true c.in_ok-bytes.bytes.items theirs c.args.value.now
    (subst (λ x. codec.decodes true x theirs) c.as_slice.ensures.value d) (c.in_ok-bytes.ensures.decodes true))
    c.signed_value.ensures
