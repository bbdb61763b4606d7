use Rattle.std.proofs.Common.{◌∙◌}
use Rattle.borsh_plan.proofs.Places.{name_is}
use Rattle.borsh_json.specs.Found.{names_of}
use Rattle.borsh_json.proofs.definitions.Definitions.name.Goals as goal

pub returns : goal.returns
returns c = λ x e. c.name.ensures ∙ (name_is (names_of c.args.self.now) c.args.at x e).1
