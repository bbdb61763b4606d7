use Rattle.std.proofs.Common.{[], ◌∷◌, arith, refl, subst, sym}
use Rattle.hex.proofs.HexLemmas.{decode_of-encode_lower}
use Rattle.hex.specs.Hex.{encode_lower}
use Rattle.json.specs.Token.{string}
use Rattle.borsh_json.specs.{declared.output.Output.{Output}, Leaves.{Adds}}
use Rattle.borsh_json.proofs.leaves.put_bytes.Goals as goal

-- nothing is kept, so the digits needn't be made
pub returns-then-is_nothing : goal.returns-then-is_nothing
returns-then-is_nothing c =
    let own = c.args.own.now in
    let text = 48 ∷ 120 ∷ encode_lower own in
    let kept = subst (λ (o : Output). Adds (string text ∷ []) o o) (sym (c.is_nothing.ensures c.if-is_nothing.true)) (refl, λ before h. tt) in
    (text, kept, (encode_lower own, refl, decode_of-encode_lower own (λ i. let b = c.type_inv.own i in omega (arith, b))))
