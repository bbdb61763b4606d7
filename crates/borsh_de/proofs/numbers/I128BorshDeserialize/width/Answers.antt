use Rattle.std.proofs.Common.{refl}
use Rattle.std.specs.Int.{w128}
use Rattle.borsh_de.proofs.FixedWidth.{signed_fixed}
use Rattle.borsh_de.proofs.numbers.I128BorshDeserialize.width.Goals as goal

pub returns : goal.returns
returns c h = signed_fixed w128 15 refl refl refl
