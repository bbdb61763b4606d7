use Rattle.std.proofs.Common.{◌∷◌, []}
use Rattle.std.specs.Result.{is_ok}
use Rattle.std.proofs.lemmas.List.Elements.{All-cons, All-nil}
use Rattle.borsh_json.specs.Ascii.{IsPlain}
use Rattle.borsh_tool_commands.proofs.Told.{plain_grown}
use Rattle.borsh_tool_commands.proofs.plain_text.PlainText.push_hex.Goals as goal

pub invariant_of-self : goal.invariant_of-self
invariant_of-self c =
    let two = All-cons IsPlain c.digit.result (c.digit-2.result ∷ []) c.digit.ensures.plain (All-cons IsPlain c.digit-2.result [] c.digit-2.ensures.plain (All-nil IsPlain)) in
    record { plain = plain_grown _ _ c.extend_from_slice.new.self.items (is_ok c.extend_from_slice.result) c.args.self.now.plain two c.extend_from_slice.ensures.items }
