-- The laws of keys that are made of octets.
use Rattle.std.proofs.Common.{◌≡◌, ℕ, ◌+◌, ◌*◌, ◌/◌, ◌%◌, Bool, false, List, [], ◌∷◌, nat_eq, sym, true≢false, ◌∙◌, ap}
use Rattle.std.proofs.Math.Nat.{div-add-mod}
use Rattle.std.specs.Bool.{Decides}
use Rattle.std.specs.Cmp.Lexicographic.{pointwise}
use Rattle.std.specs.List.{AllZip}
use Rattle.std.specs.Net.Addr.{ipv4_octets, ipv6_segments, octets_of}
use Rattle.std.specs.declared.net.ipv4_addr.Ipv4Addr.{Ipv4Addr}
use Rattle.std.specs.declared.net.ipv6_addr.Ipv6Addr.{Ipv6Addr}
use Rattle.std.specs.declared.net.ip_addr.IpAddr.{IpAddr}
use Rattle.std.specs.declared.net.ip_addr.IpAddr.TheVariants.{V4, V6}
use Rattle.borsh_codec.specs.Maps.{KeyLaw}
use Rattle.borsh_codec.specs.Shapes.{unsigned}
use Rattle.borsh_codec.specs.Types.Addresses.{ip}
use Rattle.borsh_codec.proofs.Laws.Keys.{all_key, number_key, key_as}

pub octets_key : (xs ys : List ℕ) → Decides (pointwise nat_eq xs ys) (AllZip ◌≡◌ xs ys)
octets_key xs ys = all_key (unsigned 1) (number_key 1) xs ys

same_halves : (s t : ℕ) → s / 256 ≡ t / 256 → s % 256 ≡ t % 256 → s ≡ t
same_halves s t p q = sym (div-add-mod s 256) ∙ (λ i. 256 * p i + q i) ∙ div-add-mod t 256

-- segments of two octets each are the same exactly if their octets are
segments_from : (xs ys : List ℕ) → AllZip ◌≡◌ (octets_of xs) (octets_of ys) → AllZip ◌≡◌ xs ys
segments_from [] [] h = tt
segments_from [] (t ∷ ys) h = absurd h
segments_from (s ∷ xs) [] h = absurd h
segments_from (s ∷ xs) (t ∷ ys) h = (same_halves s t h.0 h.1.0, segments_from xs ys h.1.1)

octets_from : (xs ys : List ℕ) → AllZip ◌≡◌ xs ys → AllZip ◌≡◌ (octets_of xs) (octets_of ys)
octets_from [] [] h = tt
octets_from [] (t ∷ ys) h = absurd h
octets_from (s ∷ xs) [] h = absurd h
octets_from (s ∷ xs) (t ∷ ys) h = (ap (λ n. n / 256) h.0, (ap (λ n. n % 256) h.0, octets_from xs ys h.1))

pub segments_key : (xs ys : List ℕ) → Decides (pointwise nat_eq xs ys) (AllZip ◌≡◌ (octets_of xs) (octets_of ys))
segments_key xs ys = key_as (octets_key xs ys) (octets_from xs ys) (segments_from xs ys)

-- two kinds of address, which are never equal
pub ip_key : (eq : IpAddr → IpAddr → Bool)
    → ((a b : Ipv4Addr) → eq (V4 a) (V4 b) ≡ pointwise nat_eq (ipv4_octets a) (ipv4_octets b))
    → ((a b : Ipv6Addr) → eq (V6 a) (V6 b) ≡ pointwise nat_eq (ipv6_segments a) (ipv6_segments b))
    → ((a : Ipv4Addr) (b : Ipv6Addr) → (eq (V4 a) (V6 b) ≡ false) × (eq (V6 b) (V4 a) ≡ false))
    → KeyLaw eq ip
ip_key eq fours sixes apart (V4 a) (V4 b) = (
  λ e. (octets_key (ipv4_octets a) (ipv4_octets b)).0 (sym (fours a b) ∙ e),
  λ h. fours a b ∙ (octets_key (ipv4_octets a) (ipv4_octets b)).1 h,
)
ip_key eq fours sixes apart (V6 a) (V6 b) = (
  λ e. (segments_key (ipv6_segments a) (ipv6_segments b)).0 (sym (sixes a b) ∙ e),
  λ h. sixes a b ∙ (segments_key (ipv6_segments a) (ipv6_segments b)).1 h,
)
ip_key eq fours sixes apart (V4 a) (V6 b) = (λ e. absurd (true≢false (sym e ∙ (apart a b).0)), λ h. absurd h)
ip_key eq fours sixes apart (V6 a) (V4 b) = (λ e. absurd (true≢false (sym e ∙ (apart b a).1)), λ h. absurd h)
