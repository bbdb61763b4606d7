use Rattle.std.proofs.Common.{sym, ◌∙◌}
use Rattle.borsh_enums.proofs.Steps.{left_exit, right_exit}
use Rattle.borsh_enums.proofs.decode.ForkDecodeCases.read_case.Goals as goal

pub returns-in_err-read_case : goal.returns-in_err-read_case
returns-in_err-read_case g c d = left_exit g.A.Cases.variants g.B.Cases.variants d (sym c.has_tag.ensures ∙ c.if-has_tag.true) _ c.from_residual.ensures.1 c.in_err-read_case.ensures

pub returns-in_err-read_case-2 : goal.returns-in_err-read_case-2
returns-in_err-read_case-2 g c d = right_exit g.A.Cases.variants g.B.Cases.variants d (sym c.has_tag.ensures ∙ c.if-has_tag.false) _ c.from_residual-in_err-read_case-2.ensures.1 c.in_err-read_case-2.ensures
