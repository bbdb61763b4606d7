use Rattle.std.proofs.Common.{◌≡◌, ◌++◌, ap, ◌∙◌, decimal, flat_map}
use Rattle.std.proofs.lemmas.Result.{on_ok_weaker}
use Rattle.borsh_tool_commands.specs.Plain.{escaped}
use Rattle.borsh_tool_commands.proofs.Told.{decimal_escaped}
use Rattle.borsh_tool_commands.proofs.plain_text.PlainText.push_number.Goals as goal

pub returns : goal.returns
returns c =
    let t : c.format.result.now ≡ decimal c.args.number = c.format.ensures.text in
    let old = c.args.self.now.text.items in
    on_ok_weaker c.push.result (λ e. e ∙ ap (λ s. old ++ flat_map escaped s) t ∙ ap (λ s. old ++ s) (decimal_escaped c.args.number c.ranges.number.fits)) c.push.ensures
