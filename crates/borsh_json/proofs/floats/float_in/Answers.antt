use Rattle.std.proofs.Common.{sym, ◌∙◌, ap, option_map}
use Rattle.borsh_json.proofs.FloatLaws.{no_float, number_float, word_float, parsed}
use Rattle.borsh_json.proofs.floats.float_in.Goals as goal

pub returns-in_err-as_str-in-None : goal.returns-in_err-as_str-in-None
returns-in_err-as_str-in-None g c j b =
    ap (λ o. option_map g.T.RawFloat.value o) c.from_residual.ensures
    ∙ sym (no_float g.T.RawFloat.format j (sym (c.in-None.ensures j b)) (sym (c.in_err-as_str-in-None.ensures j b)))

pub returns-in-Some : goal.returns-in-Some
returns-in-Some g c j b =
    let f = g.T.RawFloat.format in
    let val = g.T.RawFloat.value in
    ap (λ o. option_map val o) c.ok.ensures.value ∙ parsed val f c.in-Some.text.now c.parse.result c.parse.ensures.exact ∙ sym (number_float f j c.in-Some.text.now (sym (c.in-Some.ensures j b)))

pub returns-in_ok-as_str-in-None : goal.returns-in_ok-as_str-in-None
returns-in_ok-as_str-in-None g c j b = c.infinity_in.ensures ∙ sym (word_float g.T.RawFloat.format j c.in_ok-as_str-in-None.field-0.now (sym (c.in_ok-as_str-in-None.ensures j b)))
