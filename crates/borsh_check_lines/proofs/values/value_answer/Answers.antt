use Rattle.std.proofs.lemmas.Result.{IfOk-weaker}
use Rattle.borsh_check_lines.specs.Answers.AnswersValue.{accepted}
use Rattle.borsh_check_lines.proofs.OneLineSteps.{line_of_ok}
use Rattle.borsh_check_lines.proofs.values.value_answer.Goals as goal

pub returns-in-Ok-to_vec-clause-answers : goal.returns-in-Ok-to_vec-clause-answers
returns-in-Ok-to_vec-clause-answers g c =
    IfOk-weaker c.ok_answer.result _ _ (λ out e. accepted c.in-Ok.value c.in-Ok-to_vec.again.items c.in-Ok.ensures.ok c.in-Ok-to_vec.ensures.ok (rw c.deref.ensures.value at e)) c.ok_answer.ensures

pub returns-in-Ok-to_vec-clause-line : goal.returns-in-Ok-to_vec-clause-line
returns-in-Ok-to_vec-clause-line g c = IfOk-weaker c.ok_answer.result _ _ (λ out e. line_of_ok c.deref.result.now e) c.ok_answer.ensures
