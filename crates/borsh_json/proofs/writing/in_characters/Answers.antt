use Rattle.borsh_json.proofs.EscapeLaws.{plain_utf8}
use Rattle.borsh_json.proofs.writing.in_characters.Goals as goal

pub text_of-requires : goal.text_of-requires
text_of-requires c = plain_utf8 c.in_ok-in_ascii.field-0.items c.in_ok-in_ascii.ensures.plain
