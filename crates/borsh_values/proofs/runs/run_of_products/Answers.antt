use Rattle.std.proofs.Common.{◌∷◌, ◌∙◌, subst, arith, []}
use Rattle.borsh_plan.specs.Names.{name_at, parts_in, shape_at}
use Rattle.borsh_plan.specs.Plan.{definitions_of, names_of}
use Rattle.borsh_plan.proofs.Laws.{defined_at}
use Rattle.borsh_values.specs.Free.{AreFirst}
use Rattle.borsh_values.proofs.FreeLaws.{first_none, first_product, first_copy}
use Rattle.borsh_values.proofs.runs.run_of_products.Goals as goal

pub loop-values-init : goal.loop-values-init
loop-values-init c = record { few = omega arith; first = first_none (definitions_of c.args.plan.now) (name_at (names_of c.args.plan.now) c.args.at) c.args.left.now }

pub loop-values-preserved : goal.loop-values-preserved
loop-values-preserved c =
    let l = c.args.plan.now in
    let C = definitions_of l in
    let x = name_at (names_of l) c.args.at in
    let ps = parts_in (shape_at (names_of l) c.args.at) in
    let n = c.in-Some.length in
    let f = first_product C ps c.after.result.now n (defined_at l c.args.at c.requires.within ∙ c.requires.shape) c.in-Some.ensures in
    record {
      few = omega arith;
      first = first_copy C x c.args.left.now c.loop-values.values c.loop-values.taken n c.loop-values.invariant.first (subst (λ b. AreFirst C (x ∷ []) b n) c.after.ensures f);
    }
