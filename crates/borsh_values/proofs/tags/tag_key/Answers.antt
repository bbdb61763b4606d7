use Rattle.std.proofs.Common.{◌≡◌, ◌<◌, ◌%◌, ◌∙◌, ap, arith, rules, SFits, sym, w64, of_z, to_z}
use Rattle.std.specs.Prelude.{ℤ, pos, negsuc}
use Rattle.std.proofs.lemmas.Int.{to_z-of_z}
use Rattle.borsh_values.specs.Tags.{bits_of, magnitude_of}
use Rattle.borsh_values.proofs.TagLaws.{key_narrow, key_wide}
use Rattle.borsh_values.proofs.tags.tag_key.Goals as goal

small : (k : ℤ) → SFits w64 k → magnitude_of k < 9223372036854775808
small (pos n) f = omega arith
small (negsuc n) f = omega arith

pub returns-in-Some : goal.returns-in-Some
returns-in-Some c =
    let d = c.args.discriminant.now in
    let f : SFits w64 d = search rules in
    let z : to_z w64 (of_z w64 d) ≡ d = to_z-of_z w64 d f in
    (ap (λ b. b % c.in-Some.numbers) (c.bits-bits.ensures ∙ ap bits_of z) ∙ ap (λ n. bits_of d % n) c.in-Some.ensures.0 ∙ sym (key_narrow c.args.width d c.in-Some.ensures.1 (small d f)), small d f)

pub returns-in-None : goal.returns-in-None
returns-in-None c =
    let d = c.args.discriminant.now in
    let f : SFits w64 d = search rules in
    let z : to_z w64 (of_z w64 d) ≡ d = to_z-of_z w64 d f in
    (c.bits-bits.ensures ∙ ap bits_of z ∙ sym (key_wide c.args.width d c.in-None.ensures (small d f)), small d f)
