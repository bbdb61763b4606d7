use Rattle.borsh_plan.specs.Plan.{definitions_of, names_of}
use Rattle.borsh_values.proofs.FreeLaws.{run_passes}
use Rattle.borsh_values.proofs.runs.pass_run.Goals as goal

pub returns-then-has_short_parts : goal.returns-then-has_short_parts
returns-then-has_short_parts c =
    let l = c.args.plan.now in
    run_passes (definitions_of l) (names_of l) c.args.at c.args.count c.args.left.now c.run_of_enums.result c.requires.within c.run_of_enums.ensures c.pass_some.result c.pass_some.ensures

pub returns-then-has_short_parts-2 : goal.returns-then-has_short_parts-2
returns-then-has_short_parts-2 c =
    let l = c.args.plan.now in
    run_passes (definitions_of l) (names_of l) c.args.at c.args.count c.args.left.now c.run_of_products.result c.requires.within c.run_of_products.ensures c.pass_some-then-has_short_parts-2.result c.pass_some-then-has_short_parts-2.ensures
