use Rattle.std.proofs.Common.{true}
use Rattle.std.specs.Net.Addr.{ipv6_octets, segments_of}
use Rattle.borsh_de.proofs.Octets.{octets_of-segments_of}
use Rattle.borsh_de.proofs.FixedWidth.{bytes_of_row, unsigned_fixed, array_fixed, contramap_fixed}
use Rattle.borsh_de.proofs.addresses.Ipv6AddrBorshDeserialize.width.Goals as goal

pub returns : goal.returns
returns c h = contramap_fixed ipv6_octets (λ a x p. (record { segments = segments_of a }, octets_of-segments_of 8 a p.long (bytes_of_row true x a p.parts))) (array_fixed (unsigned_fixed 0) 16)
