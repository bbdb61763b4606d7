use Rattle.std.proofs.Common.{refl}
use Rattle.borsh_de.proofs.FixedWidth.{contramap_fixed}
use Rattle.borsh_de.proofs.tuples.Tuple4BorshDeserialize.width.Goals as goal

pub returns : goal.returns
returns g c h = contramap_fixed (λ t. (t.0, (t.1, t.2, t.3))) (λ a x p. ((a.0, a.1.0, a.1.1, a.1.2), refl)) (c.width.ensures h)
