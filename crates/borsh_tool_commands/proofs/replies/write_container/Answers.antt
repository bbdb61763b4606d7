use Rattle.std.proofs.Common.{rules, ◌≡◌, Err, sym, subst}
use Rattle.borsh_tool_commands.specs.Failures.{IsNoMemory}
use Rattle.borsh_tool_commands.specs.Replies.{IsContainerReply, Prints}
use Rattle.borsh_tool_commands.proofs.Printing.{prints-none, prints-reply}
use Rattle.borsh_tool_commands.proofs.replies.write_container.Goals as goal

pub returns-in_err-reply : goal.returns-in_err-reply
returns-in_err-reply g c =
    let s = c.args.schema.now in
    let x = c.in_err-reply.field-0.0 in
    let e : c.from_residual.result ≡ Err x = search rules in
    subst (λ q. Prints (IsContainerReply s c.args.is_hex) IsNoMemory g.W.Write.writing c.args.out.now c.args.out.now q) (sym e)
    (prints-none (IsContainerReply s c.args.is_hex) IsNoMemory g.met.W.Write.lawful c.args.out.now x c.in_err-reply.ensures.err)

pub returns : goal.returns
returns g c = prints-reply _ _ c.in_ok-reply.reply c.write_whole.result c.in_ok-reply.ensures.ok c.write_whole.ensures
