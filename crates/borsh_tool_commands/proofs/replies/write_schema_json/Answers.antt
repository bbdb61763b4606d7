use Rattle.std.proofs.Common.{rules, ◌≡◌, ◌∙◌, ℕ, List, Err, ap, sym, subst}
use Rattle.std.specs.Prelude.{Vec}
use Rattle.std.specs.Global.{Global}
use Rattle.borsh_tool_commands.specs.Failures.{IsNoContainerJson}
use Rattle.borsh_tool_commands.specs.Replies.{IsSchemaReply, Prints}
use Rattle.borsh_tool_commands.specs.Sent.{IsSchemaJson}
use Rattle.borsh_tool_commands.proofs.Printing.{prints-none, prints-reply}
use Rattle.borsh_tool_commands.proofs.replies.write_schema_json.Goals as goal

pub returns-in_err-text : goal.returns-in_err-text
returns-in_err-text g c =
    let path = c.args.path.now in
    let bytes = c.args.bytes.now in
    let x = c.in_err-text.field-0.0 in
    let e : c.from_residual.result ≡ Err x = search rules in
    subst (λ r. Prints (IsSchemaReply bytes) (IsNoContainerJson path bytes) g.W.Write.writing c.args.out.now c.args.out.now r) (sym e)
    (prints-none (IsSchemaReply bytes) (IsNoContainerJson path bytes) g.met.W.Write.lawful c.args.out.now x c.in_err-text.ensures.err)

pub returns : goal.returns
returns g c =
    let bytes = c.args.bytes.now in
    let ok = c.in_ok-text.ensures.ok in
    let e = ap (λ (v : Vec ℕ Global). v.items) c.yes.ensures.1 ∙ c.into_bytes.ensures in
    let is : IsSchemaReply bytes c.yes.result.is_yes c.yes.result.output.items = (c.yes.ensures.0, ok.0, subst (λ (out : List ℕ). IsSchemaJson bytes out) (sym e) ok.1) in
    prints-reply (IsSchemaReply bytes) (IsNoContainerJson c.args.path.now bytes) c.yes.result c.write_whole.result is c.write_whole.ensures
