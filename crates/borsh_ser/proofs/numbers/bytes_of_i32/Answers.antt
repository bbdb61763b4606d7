use Rattle.std.proofs.Common.{refl, sym, ap, ◌∙◌, of_z}
use Rattle.std.specs.Int.{w32}
use Rattle.std.proofs.lemmas.Int.{to_z-of_z}
use Rattle.borsh_codec.specs.Shapes.{unsigned_encoding}
use Rattle.borsh_codec.proofs.NumberBytes.{signed_by_bits}
use Rattle.borsh_ser.proofs.numbers.bytes_of_i32.Goals as goal

pub returns : goal.returns
returns c =
    let e = c.cast_unsigned.ensures ∙ ap (of_z w32) (to_z-of_z w32 c.args.n c.ranges.n) in
    signed_by_bits w32 4 c.args.n refl refl refl c.ranges.n (ap (unsigned_encoding 4) (sym e) ∙ c.bytes_of_u32.ensures)
