use Rattle.std.proofs.Common.{refl}
use Rattle.std.specs.Int.{w64}
use Rattle.borsh_de.proofs.FixedWidth.{signed_fixed}
use Rattle.borsh_de.proofs.numbers.IsizeBorshDeserialize.width.Goals as goal

pub returns : goal.returns
returns c h = signed_fixed w64 7 refl refl refl
