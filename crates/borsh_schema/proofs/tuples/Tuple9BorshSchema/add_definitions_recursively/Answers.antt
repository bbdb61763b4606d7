use Rattle.std.proofs.Common.{refl}
use Rattle.borsh_schema.proofs.Built.{adds_as}
use Rattle.borsh_schema.proofs.tuples.Tuple9BorshSchema.add_definitions_recursively.Goals as goal

pub returns : goal.returns
returns g c = adds_as c.in_ok-declaration.ensures.ok refl c.add_tuple.ensures
