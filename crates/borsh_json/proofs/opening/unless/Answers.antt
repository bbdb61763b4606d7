use Rattle.std.proofs.Common.{refl, inr}
use Rattle.borsh_json.proofs.opening.unless.Goals as goal

pub returns-in-Ok : goal.returns-in-Ok
returns-in-Ok c = inr (c.in-Ok.wanted, refl)
