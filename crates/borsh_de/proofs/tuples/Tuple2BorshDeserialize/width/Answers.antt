use Rattle.std.proofs.Common.{sym, subst}
use Rattle.borsh_codec.specs.Shapes.{pair}
use Rattle.borsh_de.specs.FixedWidth.{IsFixedWidth}
use Rattle.borsh_de.proofs.FixedWidth.{pair_fixed}
use Rattle.borsh_de.proofs.tuples.Tuple2BorshDeserialize.width.Goals as goal

pub returns : goal.returns
returns g c h =
    let e = c.both_widths.ensures h in
    subst (IsFixedWidth (pair g.A.BorshType.codec g.B.BorshType.codec)) (sym e.2) (pair_fixed (c.width.ensures e.0) (c.width-2.ensures e.1))
