use Rattle.std.proofs.Common.{◌≡◌, ℕ, ◌<◌, ◌≤◌, ◌-◌, ◌∙◌, true, false, length, get_or, arith, sym}
use Rattle.borsh_json.proofs.{IntegerLaws.{decoded}, integers.Integer.decode.Goals.{then-is_signed, else-is_signed}}
use Rattle.borsh_json.proofs.integers.Integer.decode.Goals as goal

pub returns : goal.returns
returns c = λ h.
    let bs = c.args.bytes.now in
    let neg = c.if-is_signed.is_negative in
    let some : neg ≡ true → (c.args.is_signed ≡ true) × (128 ≤ get_or bs (length bs - 1) 0) = elim c.if-is_signed.branch [
      | then-is_signed w ↦ (λ t. (w.if-is_signed.true, w.has_top_bit-is_negative.ensures.0 (sym w.is_negative-is ∙ t)))
      | else-is_signed w ↦ (λ t. (let f = w.is_negative-is in cc))
    ] in
    let none : neg ≡ false → c.args.is_signed ≡ true → get_or bs (length bs - 1) 0 < 128 = elim c.if-is_signed.branch [
      | then-is_signed w ↦ (λ t s. below (get_or bs (length bs - 1) 0) (λ l. let q = w.has_top_bit-is_negative.ensures.1 l in let e = w.is_negative-is in cc))
      | else-is_signed w ↦ (λ t s. (let f = w.if-is_signed.false in cc))
    ] in
    decoded c.args.is_signed neg bs c.magnitude_in.result (λ k l. let b = c.type_inv.bytes k in omega (arith, b)) some none (c.magnitude_in.ensures h)
  where
    below : (n : ℕ) → (128 ≤ n → ⊥) → n < 128
    below n f = omega (arith, f)
