use Rattle.std.proofs.Common.{arith}
use Rattle.borsh_codec.proofs.NumberBytes.{bytes_of}
use Rattle.borsh_ser.proofs.numbers.bytes_of_u64.Goals as goal

pub returns : goal.returns
returns c = bytes_of 8 c.args.n (omega arith) c.to_le_bytes.ensures
