use Rattle.std.proofs.Common.{arith, ap}
use Rattle.std.proofs.lemmas.List.{take_all}
use Rattle.borsh_codec.specs.Shapes.{concat_encodings}
use Rattle.borsh_codec.proofs.PutSteps.{puts_is}
use Rattle.borsh_ser.proofs.puts.put_elements.Goals as goal

pub returns : goal.returns
returns g c = puts_is (ap (concat_encodings g.T.BorshType.codec.encoding) (take_all _ c.args.items.now (omega arith))) c.put_front-count.ensures.put
