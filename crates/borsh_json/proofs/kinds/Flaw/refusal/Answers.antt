use Rattle.std.proofs.Common.{refl}
use Rattle.borsh_json.proofs.kinds.Flaw.refusal.Goals as goal

pub returns-in_ok-from_str-in-RepeatedName : goal.returns-in_ok-from_str-in-RepeatedName
returns-in_ok-from_str-in-RepeatedName c = rw c.in-RepeatedName.is (c.in_ok-from_str-in-RepeatedName.field-0, refl, c.in_ok-from_str-in-RepeatedName.ensures.ok)
