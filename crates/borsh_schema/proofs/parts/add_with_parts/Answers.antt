use Rattle.borsh_schema.proofs.Outcomes.{adds_exit_first, adds_then, adds_defined}
use Rattle.borsh_schema.proofs.parts.add_with_parts.Goals as goal

pub returns-in_err-add_definition : goal.returns-in_err-add_definition
returns-in_err-add_definition g c = adds_defined (adds_exit_first g.P.FieldTypes.described.parts _ c.from_residual.ensures.1 c.in_err-add_definition.ensures.outcome)

pub returns : goal.returns
returns g c = adds_defined (adds_then c.in_ok-add_definition.ensures.outcome c.add_types.ensures)
