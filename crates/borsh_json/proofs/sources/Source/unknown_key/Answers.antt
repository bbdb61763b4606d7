use Rattle.std.proofs.Common.{ap, subst, sym, is_some}
use Rattle.borsh_json.specs.{declared.sources.Source.{Source}, Frames.{IsLeft}}
use Rattle.borsh_json.proofs.sources.Source.unknown_key.Goals as goal

pub returns-in-Some : goal.returns-in-Some
returns-in-Some c = subst (λ (s : Source). IsLeft s c.in-Some.key.now.now) (sym c.in-Members.is) (ap is_some c.in-Some.ensures.value)
