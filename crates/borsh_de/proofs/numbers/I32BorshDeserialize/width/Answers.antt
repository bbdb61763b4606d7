use Rattle.std.proofs.Common.{refl}
use Rattle.std.specs.Int.{w32}
use Rattle.borsh_de.proofs.FixedWidth.{signed_fixed}
use Rattle.borsh_de.proofs.numbers.I32BorshDeserialize.width.Goals as goal

pub returns : goal.returns
returns c h = signed_fixed w32 3 refl refl refl
