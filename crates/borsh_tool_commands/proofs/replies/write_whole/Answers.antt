use Rattle.std.proofs.Common.{rules, ◌≡◌, Err, refl, sym, subst}
use Rattle.borsh_tool_commands.specs.Replies.{IsReplyOf, Never, Prints}
use Rattle.borsh_tool_commands.proofs.Printing.{prints-part, prints-whole}
use Rattle.borsh_tool_commands.proofs.replies.write_whole.Goals as goal

pub returns-in_err-write_made : goal.returns-in_err-write_made
returns-in_err-write_made g c =
    let reply = c.args.reply in
    let x = c.in_err-write_made.field-0.0 in
    let e : c.from_residual.result ≡ Err x = search rules in
    subst (λ r. Prints (IsReplyOf reply) Never g.W.Write.writing c.args.out.now c.write_made.new.out r) (sym e)
    (prints-part (IsReplyOf reply) Never (Err x) x reply.is_yes (refl, refl) c.in_err-write_made.ensures.flushes c.in_err-write_made.ensures.unwritten)

pub returns : goal.returns
returns g c = prints-whole (IsReplyOf c.args.reply) Never c.in_ok-write_made.field-0 c.args.reply.is_yes (refl, refl) c.in_ok-write_made.ensures.flushes c.write_made.ensures.none
