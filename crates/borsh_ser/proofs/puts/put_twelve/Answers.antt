use Rattle.borsh_codec.proofs.PutSteps.{puts_then}
use Rattle.borsh_ser.proofs.puts.put_twelve.Goals as goal

pub returns : goal.returns
returns g c = puts_then c.in_ok-first.first c.in_ok-second.second _ c.args.room.now c.put.new._room c.put_eleven.new.room c.in_ok-first.ensures c.in_ok-second.ensures
