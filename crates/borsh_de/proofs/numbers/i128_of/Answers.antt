use Rattle.std.proofs.Common.{refl, rules, ap, ◌∙◌, SFits}
use Rattle.std.specs.Int.{w128}
use Rattle.std.proofs.lemmas.Int.{to_z-of_z}
use Rattle.borsh_codec.specs.Shapes.{signed_encoding}
use Rattle.borsh_codec.proofs.NumberBytes.{signed_of}
use Rattle.borsh_de.proofs.numbers.i128_of.Goals as goal

pub returns : goal.returns
returns c =
    let f : SFits w128 c.cast_signed.result = search rules in
    ap (signed_encoding 16) (to_z-of_z w128 c.cast_signed.result f ∙ c.cast_signed.ensures) ∙ signed_of w128 16 c.u128_of.result refl refl refl c.u128_of.ensures
