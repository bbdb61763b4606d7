use Rattle.borsh_codec.specs.Shapes.{contramap}
use Rattle.borsh_enums.proofs.Steps.{enum_no_tag, enum_tagged}
use Rattle.borsh_enums.proofs.decode.read_enum.Goals as goal

pub returns-in_err-tag : goal.returns-in_err-tag
returns-in_err-tag g c = enum_no_tag (contramap g.T.FromCases.view g.T.Cases.Cases.codec) (λ m v. g.T.Cases.Cases.variants.non_empty m (g.T.FromCases.view v)) g.T.Cases.Cases.variants.reads _ c.from_residual.ensures.1 c.in_err-tag.ensures

pub returns : goal.returns
returns g c = enum_tagged (contramap g.T.FromCases.view g.T.Cases.Cases.codec) (λ m v. g.T.Cases.Cases.variants.non_empty m (g.T.FromCases.view v)) g.T.Cases.Cases.variants.reads c.in_ok-tag.ensures c.read_variant.ensures
