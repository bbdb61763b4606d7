use Rattle.std.proofs.Common.{sym, ◌∙◌, subst}
use Rattle.borsh_io.specs.Errors.{error_kind}
use Rattle.borsh_codec.specs.Reading.{IsInvalidData}
use Rattle.borsh_enums.proofs.Steps.{no_variant}
use Rattle.borsh_enums.proofs.decode.read_variant.Goals as goal

pub returns-else-has_tag : goal.returns-else-has_tag
returns-else-has_tag g c =
    let v = g.T.Cases.Cases.variants in
    let i = subst (λ b. IsInvalidData b (error_kind c.invalid_data.result)) (sym v.texts) c.invalid_data.ensures.kind in
    no_variant g.T.FromCases.view v c.args.reader.now (sym c.has_tag.ensures ∙ c.if-has_tag.false) i
