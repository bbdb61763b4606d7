use Rattle.borsh_codec.proofs.Laws.Rows.{elements_long}
use Rattle.borsh.proofs.laws.list_takes_bytes.Goals as goal

pub returns : goal.returns
returns g c = elements_long g.met.T.BorshType.lawful
