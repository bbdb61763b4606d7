use Rattle.std.proofs.Common.{rules, ◌≡◌, ◌<◌, ℕ, length, get_or, ap, ◌∙◌}
use Rattle.std.specs.Net.Addr.{octets_of, ipv6_octets}
use Rattle.borsh_codec.proofs.DecodeOutcomes.{decodes_made}
use Rattle.borsh_de.proofs.Octets.{octets_of-segments_of}
use Rattle.borsh_de.proofs.addresses.Ipv6AddrBorshDeserialize.deserialize_reader.Goals as goal

pub returns : goal.returns
returns g c =
    let read = c.in_ok-read_octets.field-0 in
    let long : length read ≡ 16 = search rules in
    let small : (i : ℕ) → get_or read i 0 < 256 = search rules in
    let same : ipv6_octets c.from_octets.result ≡ read = ap octets_of c.from_octets.ensures ∙ octets_of-segments_of 8 read long small in
    decodes_made ipv6_octets same c.in_ok-read_octets.ensures
