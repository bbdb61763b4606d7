use Rattle.std.proofs.Common.{refl}
use Rattle.std.specs.Int.{w16}
use Rattle.borsh_de.proofs.FixedWidth.{signed_fixed}
use Rattle.borsh_de.proofs.numbers.I16BorshDeserialize.width.Goals as goal

pub returns : goal.returns
returns c h = signed_fixed w16 1 refl refl refl
