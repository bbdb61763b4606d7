use Rattle.std.proofs.Common.{rules, ◌≡◌, ◌∙◌, ℕ, Err, ap, sym, subst}
use Rattle.std.specs.Prelude.{Vec}
use Rattle.std.specs.Global.{Global}
use Rattle.borsh_tool_commands.specs.Replies.{Any, IsRustReply, Prints}
use Rattle.borsh_tool_commands.proofs.Printing.{prints-none, prints-reply}
use Rattle.borsh_tool_commands.proofs.replies.write_rust.Goals as goal

pub returns-in_err-items : goal.returns-in_err-items
returns-in_err-items g c =
    let bytes = c.args.bytes.now in
    let x = c.in_err-items.field-0.0 in
    let e : c.from_residual.result ≡ Err x = search rules in
    subst (λ r. Prints (IsRustReply bytes) Any g.W.Write.writing c.args.out.now c.args.out.now r) (sym e)
    (prints-none (IsRustReply bytes) Any g.met.W.Write.lawful c.args.out.now x tt)

pub returns : goal.returns
returns g c =
    let bytes = c.args.bytes.now in
    let e = ap (λ (v : Vec ℕ Global). v.items) c.yes.ensures.1 ∙ ap (λ (v : Vec ℕ Global). v.items) c.into_bytes.ensures.value in
    let is : IsRustReply bytes c.yes.result.is_yes c.yes.result.output.items = (c.yes.ensures.0, (c.in_ok-items.items, c.in_ok-items.ensures, e)) in
    prints-reply (IsRustReply bytes) Any c.yes.result c.write_whole.result is c.write_whole.ensures
