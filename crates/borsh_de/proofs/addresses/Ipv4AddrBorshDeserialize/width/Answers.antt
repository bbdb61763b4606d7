use Rattle.std.proofs.Common.{refl}
use Rattle.std.specs.Net.Addr.{ipv4_octets}
use Rattle.borsh_de.proofs.FixedWidth.{unsigned_fixed, array_fixed, contramap_fixed}
use Rattle.borsh_de.proofs.addresses.Ipv4AddrBorshDeserialize.width.Goals as goal

pub returns : goal.returns
returns c h = contramap_fixed ipv4_octets (λ a x p. (record { octets = a }, refl)) (array_fixed (unsigned_fixed 0) 4)
