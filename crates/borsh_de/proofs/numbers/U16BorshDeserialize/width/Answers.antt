use Rattle.borsh_de.proofs.FixedWidth.{unsigned_fixed}
use Rattle.borsh_de.proofs.numbers.U16BorshDeserialize.width.Goals as goal

pub returns : goal.returns
returns c h = unsigned_fixed 1
