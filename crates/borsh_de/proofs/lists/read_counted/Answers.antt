use Rattle.borsh_codec.proofs.DecodeViews.{vec_no_count, vec_counted}
use Rattle.borsh_de.proofs.lists.read_counted.Goals as goal

pub returns-in_err-count : goal.returns-in_err-count
returns-in_err-count g c = vec_no_count g.T.BorshType.codec _ c.from_residual.ensures.1 c.in_err-count.ensures

pub returns : goal.returns
returns g c = vec_counted c.in_ok-count.ensures c.read_elements.ensures
