use Rattle.std.proofs.Common.{sym, ◌∙◌, ap, option_map}
use Rattle.borsh_json.proofs.{FloatLaws.{word_read, minus_word_read, parsed}, floats.infinity_in.Goals.{then-eq, else-eq}}
use Rattle.borsh_json.proofs.floats.infinity_in.Goals as goal

pub returns-then-eq-2 : goal.returns-then-eq-2
returns-then-eq-2 g c =
    let f = g.T.RawFloat.format in
    let val = g.T.RawFloat.value in
    let s = c.args.word.now in
    ap (λ o. option_map val o) c.ok.ensures.value ∙ parsed val f s c.parse.result c.parse.ensures.exact ∙ (elim c.if-eq.branch [
      | then-eq w ↦ word_read f s (sym c.eq.ensures ∙ w.if-eq.true)
      | else-eq w ↦ minus_word_read f s (sym w.eq-else-eq.ensures ∙ (sym w.value-is ∙ c.if-eq-2.true))
    ])
