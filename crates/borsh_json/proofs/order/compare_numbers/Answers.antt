use Rattle.std.proofs.Common.{◌≡◌, ◌∙◌, true, ap, sym, subst}
use Rattle.std.specs.Ordering.{bool_cmp}
use Rattle.borsh_json.specs.Table.{InRange}
use Rattle.borsh_values.specs.Tags.{is_negative}
use Rattle.borsh_json.proofs.{OrderNumbers.{as_naturals, by_signs, one_sign, two_signs}, order.compare_numbers.Goals.{then-is_signed+else-left_sign-right_sign, else-is_signed}}
use Rattle.borsh_json.proofs.order.compare_numbers.Goals as goal

pub returns-then-left_sign-right_sign : goal.returns-then-left_sign-right_sign
returns-then-left_sign-right_sign c n y z h i j e f =
    let t = c.if-is_signed.true in
    let l = c.is_negative-left_sign.ensures n y h (subst (λ s. InRange n s y) t i) e in
    let r = c.is_negative-right_sign.ensures n z h (subst (λ s. InRange n s z) t j) f in
    c.cmp.ensures ∙ ap (λ s. bool_cmp s c.is_negative-left_sign.result) r ∙ ap (λ s. bool_cmp (is_negative z) s) l ∙ by_signs y z (λ q. two_signs c.is_negative-left_sign.result c.is_negative-right_sign.result c.if-left_sign-right_sign.true (l ∙ q ∙ sym r))

pub returns : goal.returns
returns c n y z h i j e f =
    let same : c.args.is_signed ≡ true → is_negative y ≡ is_negative z = λ t. elim c.if-is_signed.branch [
      | then-is_signed+else-left_sign-right_sign w ↦ sym (w.is_negative-left_sign.ensures n y h (subst (λ s. InRange n s y) t i) e) ∙ one_sign w.is_negative-left_sign.result w.is_negative-right_sign.result w.if-left_sign-right_sign.false ∙ w.is_negative-right_sign.ensures n z h (subst (λ s. InRange n s z) t j) f
      | else-is_signed w ↦ absurd (let g = w.if-is_signed.false in cc)
    ] in
    let k = as_naturals n c.args.is_signed y z i j same in
    c.compare_bytes.ensures n k.0 k.1 k.2 k.3 (e ∙ k.4) (f ∙ k.5) ∙ k.6
