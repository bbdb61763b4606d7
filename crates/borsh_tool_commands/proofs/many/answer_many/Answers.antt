use Rattle.std.proofs.Common.{rules, ℕ, List, Bool, Result, ◌≡◌, [], Ok, Err, sym, subst}
use Rattle.borsh_tool_commands.specs.declared.failure.Failure.{Failure}
use Rattle.borsh_tool_commands.specs.Many.{AnswersMany, FailsBy, WritesAnswers}
use Rattle.borsh_tool_commands.proofs.ManyLaws.{finished, many-fails}
use Rattle.borsh_tool_commands.proofs.many.answer_many.Goals as goal

pub returns-in_err-write_made : goal.returns-in_err-write_made
returns-in_err-write_made g c =
    let l = c.args.many.now.json.now.plan.now in
    let bytes = (g.R.Read.stream c.args.input).bytes in
    let M : List ℕ → Result Bool Failure → Type 0 = AnswersMany c.args.action c.args.form c.args.many.now.is_strict (FailsBy g.R.Read.stream) c.args.many.now.path.now l bytes in
    let x = c.in_err-write_made.field-0.0 in
    let e : c.from_residual.result ≡ Err x = search rules in
    subst (λ r. WritesAnswers M g.W.Write.writing c.args.out.now c.write_made.new.out [] r) (sym e)
    (subst (λ m. WritesAnswers M g.W.Write.writing c.args.out.now c.write_made.new.out m (Err x)) c.write_made.ensures.none
    (finished g.met.W.Write.lawful M c.make_answers-outcome.result (Err x) (Err x) c.make_answers-outcome.ensures c.in_err-write_made.ensures.flushes c.write_made.ensures.none (λ _. c.in_err-write_made.ensures.unwritten) (λ _. c.in_err-write_made.ensures.unwritten)
    (λ out. many-fails c.args.action c.args.form c.args.many.now.is_strict (FailsBy g.R.Read.stream) c.args.many.now.path.now l bytes out c.make_answers-outcome.result x c.in_err-write_made.ensures.unwritten)))

pub returns : goal.returns
returns g c =
    let l = c.args.many.now.json.now.plan.now in
    let M : List ℕ → Result Bool Failure → Type 0 = AnswersMany c.args.action c.args.form c.args.many.now.is_strict (FailsBy g.R.Read.stream) c.args.many.now.path.now l (g.R.Read.stream c.args.input).bytes in
    let outcome = c.make_answers-outcome.result in
    subst (λ m. WritesAnswers M g.W.Write.writing c.args.out.now c.write_made.new.out m outcome) c.write_made.ensures.none
    (finished g.met.W.Write.lawful M outcome (Ok c.in_ok-write_made.field-0) outcome c.make_answers-outcome.ensures c.in_ok-write_made.ensures.flushes c.write_made.ensures.none (λ u. absurd u) (λ u. u) (λ out p. p))
