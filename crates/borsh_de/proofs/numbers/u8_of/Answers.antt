use Rattle.std.proofs.Common.{rules}
use Rattle.borsh_codec.proofs.NumberBytes.{number_of}
use Rattle.borsh_de.proofs.numbers.u8_of.Goals as goal

pub returns : goal.returns
returns c = number_of 0 c.args.bytes _ (search rules) (search rules) c.from_le_bytes.ensures
