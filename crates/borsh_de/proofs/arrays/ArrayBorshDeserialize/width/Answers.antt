use Rattle.borsh_de.proofs.FixedWidth.{some_factor, array_width}
use Rattle.borsh_de.proofs.arrays.ArrayBorshDeserialize.width.Goals as goal

pub returns-in-Some : goal.returns-in-Some
returns-in-Some g c h = array_width g.row.N _ c.in-Some.ensures.1 (c.width.ensures (some_factor _ g.row.N _ c.in-Some.ensures.1 h))
