use Rattle.std.proofs.Common.{rules}
use Rattle.std.proofs.lemmas.Result.{IfOk-weaker}
use Rattle.borsh_c.proofs.answers.unread.Goals as goal

pub returns : goal.returns
returns c = IfOk-weaker c.format-2.result _ _ (λ text e. (search rules, (_, e, c.cut-why.ensures))) c.format-2.ensures.ok
