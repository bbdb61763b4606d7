use Rattle.std.proofs.Common.{refl}
use Rattle.borsh_schema.proofs.Built.{adds_as}
use Rattle.borsh_schema.proofs.variants.add_enum.Goals as goal

pub returns : goal.returns
returns g c = adds_as c.in_ok-declaration.ensures.ok refl c.add_enum_as.ensures
