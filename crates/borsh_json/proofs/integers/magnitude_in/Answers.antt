use Rattle.std.proofs.Common.{◌-◌, ◌∙◌, arith}
use Rattle.borsh_json.proofs.IntegerLaws.{decoded_more}
use Rattle.borsh_json.proofs.integers.magnitude_in.Goals as goal

pub loop-place-preserved : goal.loop-place-preserved
loop-place-preserved c =
    let p = c.loop-place.place in
    let i = c.loop-place.invariant in
    let w = i.within in
    record {
      within = omega arith;
      value = λ h. decoded_more c.args.is_negative c.args.bytes.now (p - 1) p c.loop-place.value c.from.result (λ k l. let b = c.type_inv.bytes k in omega (arith, b)) h (omega arith) (omega arith) (i.value h) (c.from.ensures ∙ c.byte_as-byte.ensures);
    }
