use Rattle.std.proofs.Common.{refl, rules, ap, ◌∙◌, SFits}
use Rattle.std.specs.Int.{w16}
use Rattle.std.proofs.lemmas.Int.{to_z-of_z}
use Rattle.borsh_codec.specs.Shapes.{signed_encoding}
use Rattle.borsh_codec.proofs.NumberBytes.{signed_of}
use Rattle.borsh_de.proofs.numbers.i16_of.Goals as goal

pub returns : goal.returns
returns c =
    let f : SFits w16 c.cast_signed.result = search rules in
    ap (signed_encoding 2) (to_z-of_z w16 c.cast_signed.result f ∙ c.cast_signed.ensures) ∙ signed_of w16 2 c.u16_of.result refl refl refl c.u16_of.ensures
