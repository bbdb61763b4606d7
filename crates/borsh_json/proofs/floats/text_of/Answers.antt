use Rattle.std.proofs.Common.{sym, ◌∙◌}
use Rattle.borsh_json.proofs.FloatLaws.{marked, not_false, reads_back}
use Rattle.borsh_json.proofs.floats.text_of.Goals as goal

pub returns-then-is_number-clause-float : goal.returns-then-is_number-clause-float
returns-then-is_number-clause-float g c =
    let n = not_false _ (sym c.is_number.ensures ∙ c.if-is_number.true) in
    (n, reads_back g.T.RawFloat.format (g.T.RawFloat.value c.args.value) c.format.result.now n c.format.ensures.parses c.format.ensures.plain c.format.ensures.word)

pub returns-then-is_number-clause-marked : goal.returns-then-is_number-clause-marked
returns-then-is_number-clause-marked g c =
    let n = not_false _ (sym c.is_number.ensures ∙ c.if-is_number.true) in
    marked (g.T.RawFloat.value c.args.value) c.format.result.now n c.format.ensures.plain c.format.ensures.word
