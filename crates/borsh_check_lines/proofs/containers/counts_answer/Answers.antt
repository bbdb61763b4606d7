use Rattle.std.proofs.lemmas.Result.{IfOk-weaker}
use Rattle.borsh_check_lines.proofs.containers.counts_answer.Goals as goal

pub returns-clause-answers : goal.returns-clause-answers
returns-clause-answers c =
    IfOk-weaker c.counts_line.result _ _
    (λ out e. record { judged = c.judge.new.counts; counts = c.measure.new.counts; is = e; few_judged = c.judge.ensures.bounded_work; few_sized = c.measure.ensures.bounded_work; needed = c.measure.ensures.needed; rules = c.in_ok-judge.ensures.rules; size = c.in_ok-measure.ensures.size }) c.counts_line.ensures.is
