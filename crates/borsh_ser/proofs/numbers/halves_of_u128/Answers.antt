use Rattle.std.proofs.Common.{◌%◌, ◌/◌, arith}
use Rattle.borsh_codec.proofs.NumberBytes.{unsigned_parts}
use Rattle.borsh_ser.proofs.numbers.halves_of_u128.Goals as goal

pub returns : goal.returns
returns c = unsigned_parts 8 8 (c.args.n % 18446744073709551616) (c.args.n / 18446744073709551616) c.args.n (omega arith) (omega arith) (omega arith) (omega arith)
