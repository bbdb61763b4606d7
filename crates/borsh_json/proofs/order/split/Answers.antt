use Rattle.std.proofs.Common.{arith}
use Rattle.borsh_values.proofs.Bytes.{small_bytes}
use Rattle.borsh_json.proofs.order.split.Goals as goal

pub returns-clause-small : goal.returns-clause-small
returns-clause-small c = small_bytes c.args.bytes.now (λ k. let b = c.type_inv.bytes k in omega (arith, b))
