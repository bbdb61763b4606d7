use Rattle.std.proofs.Common.{subst}
use Rattle.borsh_json.specs.{declared.kinds.KeyKind.{KeyKind}, Places.{AreKeysOf}}
use Rattle.borsh_json.proofs.KindOrders.{keys_text, keys_number}
use Rattle.borsh_json.proofs.kinds.order_of_keys.Goals as goal

pub returns-in-Text : goal.returns-in-Text
returns-in-Text c F ns k f keys a o = keys_text F ns k f keys a (subst (λ (kind : KeyKind). AreKeysOf F ns k f kind keys) c.in-Text.is o)

pub returns-in-Number : goal.returns-in-Number
returns-in-Number c F ns k f keys a o = keys_number F ns c.in-Number.number k f keys a (subst (λ (kind : KeyKind). AreKeysOf F ns k f kind keys) c.in-Number.is o)
