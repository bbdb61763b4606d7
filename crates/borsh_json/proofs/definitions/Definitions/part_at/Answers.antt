use Rattle.borsh_json.proofs.PlaceLaws.{part_found}
use Rattle.borsh_json.proofs.definitions.Definitions.part_at.Goals as goal

pub returns-clause-part : goal.returns-clause-part
returns-clause-part c x f n d = part_found c.args.self.now.plan.now c.args.at c.args.index x f c.part.result c.part.ensures.place n d
