use Rattle.borsh_schema.proofs.Outcomes.{adds_exit_first, adds_then}
use Rattle.borsh_schema.proofs.fields.Tuple2FieldTypes.add_types.Goals as goal

pub returns-in_err-add_definitions_recursively : goal.returns-in_err-add_definitions_recursively
returns-in_err-add_definitions_recursively g c = adds_exit_first g.R.FieldTypes.described.parts _ c.from_residual.ensures.1 c.in_err-add_definitions_recursively.ensures

pub returns : goal.returns
returns g c = adds_then c.in_ok-add_definitions_recursively.ensures c.add_types.ensures
