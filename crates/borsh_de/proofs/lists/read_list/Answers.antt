use Rattle.borsh_codec.specs.Shapes.{length_prefixed}
use Rattle.borsh_codec.proofs.DecodeViews.{as_exit, as_refused, as_allowed}
use Rattle.borsh_de.proofs.lists.read_list.Goals as goal

pub returns-in_err-refuse_empty : goal.returns-in_err-refuse_empty
returns-in_err-refuse_empty g c =
    let t = g.T.BorshType.codec in
    as_exit _ c.from_residual.ensures.1 (as_refused t.is_zero_width (length_prefixed t) c.in_err-refuse_empty.ensures.0 c.in_err-refuse_empty.ensures.1)

pub returns : goal.returns
returns g c = as_allowed g.T.BorshType.codec.is_zero_width c.in_ok-refuse_empty.ensures c.read_counted.ensures
