use Rattle.std.proofs.Common.{refl, sym, ap, ◌∙◌, of_z}
use Rattle.std.specs.Int.{w16}
use Rattle.std.proofs.lemmas.Int.{to_z-of_z}
use Rattle.borsh_codec.specs.Shapes.{unsigned_encoding}
use Rattle.borsh_codec.proofs.NumberBytes.{signed_by_bits}
use Rattle.borsh_ser.proofs.numbers.bytes_of_i16.Goals as goal

pub returns : goal.returns
returns c =
    let e = c.cast_unsigned.ensures ∙ ap (of_z w16) (to_z-of_z w16 c.args.n c.ranges.n) in
    signed_by_bits w16 2 c.args.n refl refl refl c.ranges.n (ap (unsigned_encoding 2) (sym e) ∙ c.bytes_of_u16.ensures)
