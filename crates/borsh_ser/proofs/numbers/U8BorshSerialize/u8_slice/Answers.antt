use Rattle.std.proofs.Common.{arith}
use Rattle.borsh_codec.proofs.NumberBytes.{bytes_joined}
use Rattle.borsh_ser.proofs.numbers.U8BorshSerialize.u8_slice.Goals as goal

pub returns : goal.returns
returns c = bytes_joined c.args.slice.now (λ i. (let f = c.type_inv.slice i in omega (arith, f)))
