use Rattle.std.proofs.Common.{◌≡◌, sym, ◌∙◌, ap, length, rules, SFits, w64, of_z, to_z}
use Rattle.std.proofs.lemmas.Int.{to_z-of_z}
use Rattle.borsh_values.specs.Tags.{tag_from, is_negative, magnitude_of}
use Rattle.borsh_values.proofs.TagLaws.{tag_is}
use Rattle.borsh_values.proofs.tags.is_tag.Goals as goal

pub returns : goal.returns
returns c =
    let f : SFits w64 c.args.discriminant.now = search rules in
    let z : to_z w64 (of_z w64 c.args.discriminant.now) ≡ c.args.discriminant.now = to_z-of_z w64 c.args.discriminant.now f in
    let a = tag_is (length c.args.bytes.now) c.args.discriminant.now in
    let b = ap (λ d. tag_from (is_negative d) (length c.args.bytes.now) (magnitude_of c.args.discriminant.now)) (sym z) ∙ ap (λ f. tag_from f (length c.args.bytes.now) (magnitude_of c.args.discriminant.now)) (sym c.is_negative.ensures) in
    let d = ap (λ d. tag_from c.is_negative.result (length c.args.bytes.now) (magnitude_of d)) (sym z) ∙ ap (λ n. tag_from c.is_negative.result (length c.args.bytes.now) n) (sym c.magnitude.ensures) in
    ((λ e. a ∙ b ∙ d ∙ c.writes_tag.ensures.0 e), λ e. c.writes_tag.ensures.1 (sym (a ∙ b ∙ d) ∙ e))
