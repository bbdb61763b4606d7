use Rattle.std.proofs.lemmas.Result.{IfOk-weaker}
use Rattle.borsh_check_lines.proofs.Agreed.{never_clashes}
use Rattle.borsh_check_lines.proofs.schemas.schema_answer.Goals as goal

pub returns-clause-answers : goal.returns-clause-answers
returns-clause-answers c = IfOk-weaker c.ask.result _ _ (λ out p. never_clashes c.args.word out.items p) c.ask.ensures.answers
