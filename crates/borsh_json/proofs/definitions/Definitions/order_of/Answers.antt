use Rattle.std.proofs.Common.{inr, refl}
use Rattle.borsh_json.specs.Ordered.{other}
use Rattle.borsh_json.proofs.definitions.Definitions.order_of.Goals as goal

pub returns-in-None : goal.returns-in-None
returns-in-None c x h = let t = c.in-None.ensures.none x h refl in (other, inr (t.0, inr (refl, t.1)), (h, refl))

pub returns-in-Some : goal.returns-in-Some
returns-in-Some c x h = c.in-Some.ensures.order x h
