use Rattle.borsh.proofs.Inserted.{each_key_once}
use Rattle.borsh.proofs.laws.index_map_entries.Goals as goal

pub returns : goal.returns
returns g c = λ read. each_key_once g.met.K.Eq.laws read
