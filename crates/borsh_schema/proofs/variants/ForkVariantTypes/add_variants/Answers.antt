use Rattle.borsh_schema.proofs.Outcomes.{adds_exit_first}
use Rattle.borsh_schema.proofs.Steps.{adds_then_left}
use Rattle.borsh_schema.proofs.variants.ForkVariantTypes.add_variants.Goals as goal

pub returns-in_err-add_variants-clause-outcome : goal.returns-in_err-add_variants-clause-outcome
returns-in_err-add_variants-clause-outcome g c = adds_exit_first _ _ c.from_residual.ensures.1 c.in_err-add_variants.ensures.outcome

pub returns-clause-outcome : goal.returns-clause-outcome
returns-clause-outcome g c =
    adds_then_left (λ y. (g.B.VariantTypes.read c.args.name.now y).parts) c.in_ok-add_variants.ensures.rest c.in_ok-add_variants.ensures.outcome c.add_variants-2.ensures.outcome
