use Rattle.std.proofs.Common.{refl}
use Rattle.std.specs.Int.{w8}
use Rattle.borsh_de.proofs.FixedWidth.{signed_fixed}
use Rattle.borsh_de.proofs.numbers.I8BorshDeserialize.width.Goals as goal

pub returns : goal.returns
returns c h = signed_fixed w8 0 refl refl refl
