use Rattle.std.proofs.lemmas.Bool.Decides.{Decides-at}
use Rattle.borsh_definitions.proofs.Laws.Equality.{definition-Decides}
use Rattle.borsh_source.proofs.adding.says_the_same.Goals as goal

pub returns : goal.returns
returns c = Decides-at c.eq.result _ c.eq.ensures (definition-Decides c.args.known.now c.args.given.now)
