use Rattle.std.proofs.Common.{rules, ◌≡◌, ℕ, List, Err, sym, subst}
use Rattle.borsh_tool_commands.specs.declared.replies.Reply.{Reply}
use Rattle.borsh_tool_commands.specs.Failures.{IsNoContainer}
use Rattle.borsh_tool_commands.specs.Questions.{AnswersRequest}
use Rattle.borsh_tool_commands.specs.Replies.{Prints}
use Rattle.borsh_tool_commands.proofs.Printing.{prints-none, prints-reply}
use Rattle.borsh_tool_commands.proofs.replies.write_answer.Goals as goal

pub returns-in_err-is_yes : goal.returns-in_err-is_yes
returns-in_err-is_yes g c =
    let q = c.args.request.now.question in
    let path = c.args.request.now.path.now in
    let bytes = c.args.bytes.now in
    let x = c.in_err-is_yes.field-0.0 in
    let e : c.from_residual.result ≡ Err x = search rules in
    subst (λ r. Prints (AnswersRequest q bytes) (IsNoContainer path bytes) g.W.Write.writing c.args.out.now c.args.out.now r) (sym e)
    (prints-none (AnswersRequest q bytes) (IsNoContainer path bytes) g.met.W.Write.lawful c.args.out.now x c.in_err-is_yes.ensures.err)

pub returns : goal.returns
returns g c =
    let q = c.args.request.now.question in
    let bytes = c.args.bytes.now in
    let reply : Reply = record { is_yes = c.in_ok-is_yes.field-0.is_yes; output = c.into_bytes.result } in
    let is = subst (λ (out : List ℕ). AnswersRequest q bytes reply.is_yes out) (sym c.into_bytes.ensures) c.in_ok-is_yes.ensures.ok in
    prints-reply (AnswersRequest q bytes) (IsNoContainer c.args.request.now.path.now bytes) reply c.write_whole.result is c.write_whole.ensures
