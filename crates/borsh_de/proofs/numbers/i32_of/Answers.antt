use Rattle.std.proofs.Common.{refl, rules, ap, ◌∙◌, SFits}
use Rattle.std.specs.Int.{w32}
use Rattle.std.proofs.lemmas.Int.{to_z-of_z}
use Rattle.borsh_codec.specs.Shapes.{signed_encoding}
use Rattle.borsh_codec.proofs.NumberBytes.{signed_of}
use Rattle.borsh_de.proofs.numbers.i32_of.Goals as goal

pub returns : goal.returns
returns c =
    let f : SFits w32 c.cast_signed.result = search rules in
    ap (signed_encoding 4) (to_z-of_z w32 c.cast_signed.result f ∙ c.cast_signed.ensures) ∙ signed_of w32 4 c.u32_of.result refl refl refl c.u32_of.ensures
