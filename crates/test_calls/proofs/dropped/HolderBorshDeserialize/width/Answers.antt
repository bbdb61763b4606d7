use Rattle.std.proofs.Common.{refl}
use Rattle.std.specs.Prelude.{None}
use Rattle.borsh_de.proofs.FixedWidth.{contramap_fixed, unsigned_fixed}
use Rattle.test_calls.proofs.dropped.HolderBorshDeserialize.width.Goals as goal

pub returns-then-this-ne0 : goal.returns-then-this-ne0
returns-then-this-ne0 g c h = contramap_fixed (λ v. v.number) (λ a x p. (record { number = a; block = None }, refl)) (unsigned_fixed 0)
