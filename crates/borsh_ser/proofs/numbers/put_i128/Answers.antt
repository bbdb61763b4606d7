use Rattle.std.proofs.Common.{refl, ap, ◌∙◌, of_z, Some, None, Option, ℕ, ℤ, SFits, List}
use Rattle.std.specs.Int.{w128}
use Rattle.std.proofs.lemmas.Int.{to_z-of_z}
use Rattle.borsh_codec.specs.Shapes.{unsigned_encoding, signed_encoding}
use Rattle.borsh_codec.specs.Writing.{Puts}
use Rattle.borsh_codec.proofs.NumberBytes.{signed_by_bits}
use Rattle.borsh_codec.proofs.PutSteps.{puts_is}
use Rattle.borsh_ser.proofs.numbers.put_i128.Goals as goal

puts_signed : (n : ℤ) (old new : List ℕ) (r : Option ℕ) → SFits w128 n → Puts (unsigned_encoding 16 (of_z w128 n)) old new r → Puts (signed_encoding 16 n) old new r
puts_signed n old new None f p = record { same = p.same; put = tt }
puts_signed n old new (Some k) f p = record { same = p.same; put = (p.put.0, signed_by_bits w128 16 n refl refl refl f p.put.1) }

pub returns : goal.returns
returns c =
    let e = c.cast_unsigned.ensures ∙ ap (of_z w128) (to_z-of_z w128 c.args.n c.ranges.n) in
    puts_signed c.args.n _ _ _ c.ranges.n (puts_is (ap (unsigned_encoding 16) e) c.put_u128.ensures)
