use Rattle.std.proofs.Common.{refl}
use Rattle.borsh_de.proofs.FixedWidth.{contramap_fixed}
use Rattle.borsh_de.proofs.tuples.Tuple8BorshDeserialize.width.Goals as goal

pub returns : goal.returns
returns g c h = contramap_fixed (λ t. (t.0, (t.1, t.2, t.3, t.4, t.5, t.6, t.7))) (λ a x p. ((a.0, a.1.0, a.1.1, a.1.2, a.1.3, a.1.4, a.1.5, a.1.6), refl)) (c.width.ensures h)
