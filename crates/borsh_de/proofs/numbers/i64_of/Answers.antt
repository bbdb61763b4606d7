use Rattle.std.proofs.Common.{refl, rules, ap, ◌∙◌, SFits}
use Rattle.std.specs.Int.{w64}
use Rattle.std.proofs.lemmas.Int.{to_z-of_z}
use Rattle.borsh_codec.specs.Shapes.{signed_encoding}
use Rattle.borsh_codec.proofs.NumberBytes.{signed_of}
use Rattle.borsh_de.proofs.numbers.i64_of.Goals as goal

pub returns : goal.returns
returns c =
    let f : SFits w64 c.cast_signed.result = search rules in
    ap (signed_encoding 8) (to_z-of_z w64 c.cast_signed.result f ∙ c.cast_signed.ensures) ∙ signed_of w64 8 c.u64_of.result refl refl refl c.u64_of.ensures
