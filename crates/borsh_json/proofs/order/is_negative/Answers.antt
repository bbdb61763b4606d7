use Rattle.borsh_json.proofs.OrderNumbers.{sign_tested, no_tag}
use Rattle.borsh_json.proofs.order.is_negative.Goals as goal

pub returns-in-empty : goal.returns-in-empty
returns-in-empty c n z h i e = absurd (no_tag n z c.args.bytes.now h e c.in-empty.len_below)

pub returns-in-len1-up : goal.returns-in-len1-up
returns-in-len1-up c n z h i e = sign_tested n z c.args.bytes.now h i e
