use Rattle.borsh_json.proofs.PlaceLaws.{zero_there}
use Rattle.borsh_json.proofs.definitions.Definitions.is_zero_size.Goals as goal

pub returns : goal.returns
returns c = λ x e. zero_there c.args.self.now.plan.now c.args.at x c.is_zero.result c.is_zero.ensures e
