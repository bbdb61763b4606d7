use Rattle.std.proofs.Common.{refl, ◌∙◌}
use Rattle.borsh_schema.proofs.Built.{adds_as}
use Rattle.borsh_schema.proofs.parameters.add_named_with.Goals as goal

pub returns : goal.returns
returns g c = adds_as (c.as_str.ensures.value ∙ c.in_ok-declaration.ensures.ok) refl c.add_named.ensures
