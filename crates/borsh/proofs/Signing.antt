-- What the laws of a codec say of an encoding that was returned.
use Rattle.std.proofs.Common.{◌≡◌, ℕ, true, Some, Ok, Vec}
use Rattle.std.specs.Global.{Global}
use Rattle.borsh_codec.specs.Codec.{Codec, Lawful}
use Rattle.borsh.specs.Signing.{EncodesValue}

pub encoded : {A : Type 0} {c : Codec A} → Lawful A c → (v : A) (b : Vec ℕ Global) → c.encoding v ≡ Some b.items → EncodesValue A c v (Ok b)
encoded l v b is = record {
  ok = is;
  err = tt;
  decodes = λ strict. l.round_trip strict v b.items is;
  unique = λ w same. l.unambiguous true b.items w v (l.round_trip true w b.items same) (l.round_trip true v b.items is);
}
