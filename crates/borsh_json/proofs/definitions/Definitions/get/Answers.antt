use Rattle.borsh_json.proofs.PlaceLaws.{form_there}
use Rattle.borsh_json.proofs.definitions.Definitions.get.Goals as goal

pub returns : goal.returns
returns c = λ x e. form_there c.args.self.now.plan.now c.args.at x c.definition.result c.definition.ensures.definition e
