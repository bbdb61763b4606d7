-- The laws of the types that are put together from several shapes.
use Rattle.std.specs.Prelude.{ℕ, List, Bool, true, false, Option, Result, ◌⊎◌}
use Rattle.std.proofs.Common.{arith, refl, ap}
use Rattle.std.specs.Str.{is_utf8}
use lib.Ieee.{Float, Format, binary32, binary64, to_bits}
use Rattle.std.specs.declared.net.ipv4_addr.Ipv4Addr.{Ipv4Addr}
use Rattle.std.specs.declared.net.ipv6_addr.Ipv6Addr.{Ipv6Addr}
use Rattle.std.specs.declared.net.ip_addr.IpAddr.{IpAddr}
use Rattle.std.specs.declared.net.socket_addr.SocketAddrV4.{SocketAddrV4}
use Rattle.std.specs.declared.net.socket_addr.SocketAddrV6.{SocketAddrV6}
use Rattle.std.specs.declared.net.socket_addr.SocketAddr.{SocketAddr}
use Rattle.std.specs.Net.Addr.{ipv4_octets, ipv6_octets}
use Rattle.borsh_codec.specs.Codec.{Codec, Lawful}
use Rattle.borsh_codec.specs.Shapes.{unsigned, never, length_prefixed}
use Rattle.borsh_codec.specs.Types.Sums.{two_variants, bool_view, bool, option_view, option, result_view, result_of}
use Rattle.borsh_codec.specs.Types.Floats.{is_number, float, float32, float64}
use Rattle.borsh_codec.specs.Types.Texts.{text}
use Rattle.borsh_codec.specs.Types.Addresses.{octets, ipv4, ipv6, ip_view, ip, socket_v4_view, socket_v4, IsPlainAddress, socket_v6_view, socket_v6, socket_view, socket}
use Rattle.borsh_codec.proofs.Laws.Exact.{contramap-lawful, unit-lawful, never-lawful, Respects, filtered-lawful, decoded_with-lawful}
use Rattle.borsh_codec.proofs.Laws.Variants.{variant-lawful, variant_avoids, nothing_avoids}
use Rattle.borsh_codec.proofs.Laws.Numbers.{unsigned-lawful}
use Rattle.borsh_codec.proofs.Laws.Pairs.{pair-lawful}
use Rattle.borsh_codec.proofs.Laws.Rows.{array-lawful, length_prefixed-lawful, all_equal}

pub two-lawful : {A B : Type 0} {a : Codec A} {b : Codec B} → Lawful A a → Lawful B b → Lawful (A ⊎ (B ⊎ ⊥)) (two_variants a b)
two-lawful {b = b} la lb =
    variant-lawful 0 la (variant-lawful 1 lb never-lawful (nothing_avoids 1) refl) (variant_avoids b never (λ e. omega arith) (nothing_avoids 0)) refl

pub bool-lawful : Lawful Bool bool
bool-lawful = contramap-lawful bool_view (two-lawful unit-lawful unit-lawful)

pub option-lawful : {A : Type 0} {c : Codec A} → Lawful A c → Lawful (Option A) (option c)
option-lawful l = contramap-lawful option_view (two-lawful unit-lawful l)

pub result_of-lawful : {A E : Type 0} {a : Codec A} {e : Codec E} → Lawful A a → Lawful E e → Lawful (Result A E) (result_of a e)
result_of-lawful la le = contramap-lawful result_view (two-lawful le la)

-- whether bytes are UTF-8 depends on the bytes alone
pub utf8_respects : Respects is_utf8 (length_prefixed (unsigned 1))
utf8_respects xs ys s = ap is_utf8 (all_equal xs ys s)

pub text-lawful : Lawful (List ℕ) text
text-lawful = filtered-lawful true is_utf8 utf8_respects (length_prefixed-lawful (unsigned-lawful 1))

pub number_respects : (f : Format) (n : ℕ) → Respects (is_number f) (unsigned n)
number_respects f n a b e = ap (is_number f) e

pub float-lawful : (f : Format) (n : ℕ) → Lawful Float (float f n)
float-lawful f n = contramap-lawful (to_bits f) (filtered-lawful false (is_number f) (number_respects f n) (unsigned-lawful n))

pub float32-lawful : Lawful Float float32
float32-lawful = float-lawful binary32 4

pub float64-lawful : Lawful Float float64
float64-lawful = float-lawful binary64 8

pub octets-lawful : (n : ℕ) → Lawful (List ℕ) (octets n)
octets-lawful n = array-lawful n (unsigned-lawful 1)

pub ipv4-lawful : Lawful Ipv4Addr ipv4
ipv4-lawful = contramap-lawful ipv4_octets (octets-lawful 4)

pub ipv6-lawful : Lawful Ipv6Addr ipv6
ipv6-lawful = contramap-lawful ipv6_octets (octets-lawful 16)

pub ip-lawful : Lawful IpAddr ip
ip-lawful = contramap-lawful ip_view (two-lawful ipv4-lawful ipv6-lawful)

pub socket_v4-lawful : Lawful SocketAddrV4 socket_v4
socket_v4-lawful = contramap-lawful socket_v4_view (pair-lawful ipv4-lawful (unsigned-lawful 2))

pub socket_v6-lawful : Lawful SocketAddrV6 socket_v6
socket_v6-lawful = decoded_with-lawful IsPlainAddress (contramap-lawful socket_v6_view (pair-lawful ipv6-lawful (unsigned-lawful 2)))

pub socket-lawful : Lawful SocketAddr socket
socket-lawful = contramap-lawful socket_view (two-lawful socket_v4-lawful socket_v6-lawful)
