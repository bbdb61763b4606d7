use Rattle.std.proofs.Common.{refl}
use Rattle.borsh_de.proofs.FixedWidth.{contramap_fixed}
use Rattle.borsh_de.proofs.tuples.Tuple1BorshDeserialize.width.Goals as goal

pub returns : goal.returns
returns g c h = contramap_fixed (λ t. t.0) (λ a x p. (record { 0 = a }, refl)) (c.width.ensures h)
