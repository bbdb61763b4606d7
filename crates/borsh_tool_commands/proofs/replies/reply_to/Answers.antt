use Rattle.std.proofs.Common.{rules, ◌≡◌, true, sym, ◌∙◌, ap, subst, String}
use Rattle.std.specs.Prelude.{string_bytes}
use Rattle.borsh_json.specs.Printed.{layout_if, numbers_if}
use Rattle.borsh_tool_commands.specs.Json.{HasQuotedLine, IsJsonLine}
use Rattle.borsh_tool_commands.specs.Printed.{printed}
use Rattle.borsh_tool_commands.specs.Replies.{Replies}
use Rattle.borsh_tool_commands.proofs.replies.reply_to.Goals as goal

pub returns-in_ok-text-in-Decode-clause-ok : goal.returns-in_ok-text-in-Decode-clause-ok
returns-in_ok-text-in-Decode-clause-ok c =
    let s = c.args.schema.now in
    let r = c.args.request.now in
    let out = c.yes.result.output.items in
    let line : IsJsonLine s.definitions (string_bytes s.root) (layout_if r.is_compact) c.args.value.now out = search rules in
    let same : printed c.in_ok-text-in-Decode.text ≡ out = search rules in
    let quoted : r.has_quoted_numbers ≡ true → HasQuotedLine s.definitions (string_bytes s.root) out = λ q. subst (λ l. HasQuotedLine s.definitions (string_bytes s.root) l) same (c.in_ok-text-in-Decode.ensures.quoted (c.style_of.ensures.1 ∙ ap numbers_if q)) in
    subst (λ a. Replies a r s c.args.value.now c.yes.result.is_yes out) (sym c.in-Decode.is) (c.yes.ensures.0, line, quoted)
