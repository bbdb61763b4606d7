use Rattle.std.proofs.Common.{rules}
use Rattle.borsh_de.proofs.Overwriting.{over_filled}
use Rattle.borsh_de.proofs.numbers.U8BorshDeserialize.read_slice.Goals as goal

pub returns-clause-outcome : goal.returns-clause-outcome
returns-clause-outcome g c = over_filled c.fill.result (search rules) c.fill.ensures
