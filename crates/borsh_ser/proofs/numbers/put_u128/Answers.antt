use Rattle.borsh_codec.proofs.PutSteps.{puts_is}
use Rattle.borsh_ser.proofs.numbers.put_u128.Goals as goal

pub returns : goal.returns
returns c = puts_is c.halves_of_u128-low.ensures c.put_two.ensures
