use Rattle.borsh_de.proofs.FixedWidth.{unsigned_fixed, array_fixed}
use Rattle.borsh_de.proofs.kit_types.UuidBorshDeserialize.width.Goals as goal

pub returns : goal.returns
returns c h = array_fixed (unsigned_fixed 0) 16
