use Rattle.borsh_plan.specs.Plan.{names_of as plan_names}
use Rattle.borsh_json.specs.Found.{forms_of}
use Rattle.borsh_json.proofs.NameLaws.{no_map_in}
use Rattle.borsh_json.proofs.kinds.has_empty_keys.Goals as goal

pub returns-in_default : goal.returns-in_default
returns-in_default c = λ x h l v m z. no_map_in (forms_of c.args.definitions.now) (plan_names c.args.definitions.now.plan.now) x c.args.collection h c.in_default.not-Map l v m
