-- Addresses: their octets, and a tag where there are two kinds.
use Rattle.std.specs.Prelude.{◌≡◌, ℕ, List, ◌⊎◌}
use mathlib.Core.Logic.{inl, inr}
use Rattle.std.specs.declared.net.ipv4_addr.Ipv4Addr.{Ipv4Addr}
use Rattle.std.specs.declared.net.ipv6_addr.Ipv6Addr.{Ipv6Addr}
use Rattle.std.specs.declared.net.ip_addr.IpAddr.{IpAddr}
use Rattle.std.specs.declared.net.ip_addr.IpAddr.TheVariants.{V4, V6}
use Rattle.std.specs.declared.net.socket_addr.SocketAddrV4.{SocketAddrV4}
use Rattle.std.specs.declared.net.socket_addr.SocketAddrV6.{SocketAddrV6}
use Rattle.std.specs.declared.net.socket_addr.SocketAddr.{SocketAddr}
use Rattle.std.specs.declared.net.socket_addr.SocketAddr.TheVariants as Socket
use Rattle.std.specs.Net.Addr.{ipv4_octets, ipv6_octets}
use Rattle.std.specs.Net.Socket.{v4_ip, v4_port, v6_ip, v6_port, v6_flowinfo, v6_scope_id}
use Rattle.borsh_codec.specs.Codec.{Codec}
use Rattle.borsh_codec.specs.Shapes.{contramap, unsigned, pair, array, decoded_with}
use Rattle.borsh_codec.specs.Types.Sums.{two_variants}

-- n bytes
abbrev pub octets : ℕ → Codec (List ℕ)
octets n = array n (unsigned 1)

-- four octets
abbrev pub ipv4 : Codec Ipv4Addr
ipv4 = contramap ipv4_octets (octets 4)

-- sixteen octets
abbrev pub ipv6 : Codec Ipv6Addr
ipv6 = contramap ipv6_octets (octets 16)

abbrev pub ip_view : IpAddr → Ipv4Addr ⊎ (Ipv6Addr ⊎ ⊥)
ip_view (V4 a) = inl a
ip_view (V6 a) = inr (inl a)

-- a tag, 0 or 1, and the octets
abbrev pub ip : Codec IpAddr
ip = contramap ip_view (two_variants ipv4 ipv6)

-- ---- an address and a port

abbrev pub socket_v4_view : SocketAddrV4 → Ipv4Addr × ℕ
socket_v4_view a = (v4_ip a, v4_port a)

-- the octets and two bytes of the port
abbrev pub socket_v4 : Codec SocketAddrV4
socket_v4 = contramap socket_v4_view (pair ipv4 (unsigned 2))

-- neither the flow nor the scope
abbrev pub socket_v6_view : SocketAddrV6 → Ipv6Addr × ℕ
socket_v6_view a = (v6_ip a, v6_port a)

-- the flow and the scope are 0
abbrev pub IsPlainAddress : SocketAddrV6 → Type 0
IsPlainAddress a = (v6_flowinfo a ≡ 0) × (v6_scope_id a ≡ 0)

-- the same for sixteen octets; decoding makes a plain address
abbrev pub socket_v6 : Codec SocketAddrV6
socket_v6 = decoded_with IsPlainAddress (contramap socket_v6_view (pair ipv6 (unsigned 2)))

abbrev pub socket_view : SocketAddr → SocketAddrV4 ⊎ (SocketAddrV6 ⊎ ⊥)
socket_view (Socket.V4 a) = inl a
socket_view (Socket.V6 a) = inr (inl a)

-- a tag, 0 or 1, and an address with a port
abbrev pub socket : Codec SocketAddr
socket = contramap socket_view (two_variants socket_v4 socket_v6)
