use Rattle.std.proofs.Common.{refl, rules, ap, ◌∙◌, SFits}
use Rattle.std.specs.Int.{w8}
use Rattle.std.proofs.lemmas.Int.{to_z-of_z}
use Rattle.borsh_codec.specs.Shapes.{signed_encoding}
use Rattle.borsh_codec.proofs.NumberBytes.{signed_of}
use Rattle.borsh_de.proofs.numbers.i8_of.Goals as goal

pub returns : goal.returns
returns c =
    let f : SFits w8 c.cast_signed.result = search rules in
    ap (signed_encoding 1) (to_z-of_z w8 c.cast_signed.result f ∙ c.cast_signed.ensures) ∙ signed_of w8 1 c.u8_of.result refl refl refl c.u8_of.ensures
