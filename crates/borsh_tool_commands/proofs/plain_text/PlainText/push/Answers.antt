use Rattle.std.proofs.Common.{◌∙◌, ap, sym, flat_map}
use Rattle.std.specs.Result.{is_ok}
use Rattle.borsh_tool_commands.specs.Plain.{escaped}
use Rattle.borsh_tool_commands.proofs.Told.{added_as, plain_grown, printable_escaped, printable_plain}
use Rattle.borsh_tool_commands.proofs.plain_text.PlainText.push.Goals as goal

pub invariant_of-self : goal.invariant_of-self
invariant_of-self c =
    let h = sym c.are_printable.ensures ∙ c.if-are_printable.true in
    record { plain = plain_grown _ _ c.extend_from_slice.new.self.items (is_ok c.extend_from_slice.result) c.args.self.now.plain (printable_plain c.as_bytes-bytes.result.now h) c.extend_from_slice.ensures.items }

pub returns-then-are_printable : goal.returns-then-are_printable
returns-then-are_printable c =
    let h = sym c.are_printable.ensures ∙ c.if-are_printable.true in
    added_as _ _ _ c.extend_from_slice.new.self.items c.extend_from_slice.result c.extend_from_slice.ensures.items (sym (printable_escaped c.as_bytes-bytes.result.now h) ∙ ap (λ s. flat_map escaped s) c.as_bytes-bytes.ensures.value)
