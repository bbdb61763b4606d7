use Rattle.std.proofs.Common.{◌∙◌, sym}
use Rattle.borsh_json.proofs.NameLaws.{float_primitive}
use Rattle.borsh_json.proofs.kinds.kind_of_primitive.Goals as goal

pub returns-then-is_float : goal.returns-then-is_float
returns-then-is_float c = float_primitive c.args.name.now c.args.size (sym c.is_float.ensures ∙ c.if-is_float.true)
