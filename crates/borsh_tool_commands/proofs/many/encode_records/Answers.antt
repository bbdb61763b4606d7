use Rattle.std.proofs.Common.{rules, inl, ℕ, List, Bool, Result, ◌≡◌, false, Err, sym, subst}
use Rattle.borsh_tool_commands.specs.declared.command.Action.TheVariants.{Encode}
use Rattle.borsh_tool_commands.specs.declared.command.Form.TheVariants.{Records}
use Rattle.borsh_tool_commands.specs.declared.failure.Failure.{Failure}
use Rattle.borsh_tool_commands.specs.declared.many.Wanted.TheVariants.{Bytes}
use Rattle.borsh_tool_commands.specs.Lines.{IsFirstLine}
use Rattle.borsh_tool_commands.specs.Many.{AnswersLine, AnswersMany, FailsBy, IsNoRoot, StopsAtLine, WritesAnswers}
use Rattle.borsh_plan.specs.Plan.{definitions_of, root_of}
use Rattle.borsh_tool_commands.proofs.ManyLaws.{held, other-root, stops-first, writes-as}
use Rattle.borsh_tool_commands.proofs.StopLaws.{stop-led}
use Rattle.borsh_tool_commands.proofs.many.encode_records.Goals as goal

pub returns-in_err-_none : goal.returns-in_err-_none
returns-in_err-_none g c =
    let l = c.args.many.now.json.now.plan.now in
    let bytes = (g.R.Read.stream c.args.input).bytes in
    let M : List ℕ → Result Bool Failure → Type 0 = AnswersMany Encode Records c.args.many.now.is_strict (FailsBy g.R.Read.stream) c.args.many.now.path.now l bytes in
    let x = c.in_err-_none.field-0.0 in
    let e : c.from_residual.result ≡ Err x = search rules in
    subst (λ r. WritesAnswers M g.W.Write.writing c.args.out.now c.args.out.now c.args.made.now.items r) (sym e)
    (writes-as (stops-first g.met.W.Write.lawful IsFirstLine (AnswersLine l Bytes false) (StopsAtLine (FailsBy g.R.Read.stream) c.args.many.now.path.now l Bytes false (IsNoRoot (definitions_of l) (root_of l)) bytes) bytes c.args.out.now c.args.made.now.items x c.requires (λ left. stop-led c.args.many.now.path.now (λ y u. absurd u) inl (λ u. absurd u) x c.in_err-_none.ensures.err)) (λ out p. (p, tt)))

pub returns : goal.returns
returns g c =
    let l = c.args.many.now.json.now.plan.now in
    writes-as c.answer_lines.ensures (λ out p. (other-root (FailsBy g.R.Read.stream) c.args.many.now.path.now l Bytes false (IsNoRoot (definitions_of l) (root_of l)) (g.R.Read.stream c.args.input).bytes out c.answer_lines.result p, held c.answer_lines.result c.in_ok-_none.ensures.nonempty))
