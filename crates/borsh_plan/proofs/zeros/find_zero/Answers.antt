use Rattle.std.proofs.Common.{refl, sym, ◌∙◌, subst}
use Rattle.borsh_walks.specs.Container.{IsIn}
use Rattle.borsh_walks.specs.Definitions.{definitions_in, shape_of}
use Rattle.borsh_plan.specs.Names.{name_at, parts_in, shape_at}
use Rattle.borsh_plan.proofs.Places.{defined_at}
use Rattle.borsh_plan.proofs.ZeroLaws.{unit_zero, never_zero_at, never_zero_part}
use Rattle.borsh_plan.proofs.zeros.find_zero.Goals as goal

pub returns-then-is_unit-clause-zero : goal.returns-then-is_unit-clause-zero
returns-then-is_unit-clause-zero c =
    let l = c.args.names.now in
    ((λ e. unit_zero (definitions_in l.map.now) (shape_of c.in-Some.definition.now) (defined_at l.map.now l.root.now l.names.items l.parts.items l.planned c.args.at c.requires.within ∙ sym c.in-Some.ensures.shape) (c.is_unit.ensures c.if-is_unit.true)), λ h. refl)

pub returns-then-has_never_zero_part-clause-zero : goal.returns-then-has_never_zero_part-clause-zero
returns-then-has_never_zero_part-clause-zero c =
    let l = c.args.names.now in
    let C = definitions_in l.map.now in
    let ns = l.names.items in
    let p = c.has_never_zero_part.ensures c.if-has_never_zero_part.true in
    let d = shape_of c.in-Some.definition.now in
    let shape = sym c.in-Some.ensures.shape in
    let among = subst (λ o. IsIn (name_at ns p.0) (parts_in o)) shape p.2 in
    ((λ e. cc), λ h. absurd (never_zero_part C d (defined_at l.map.now l.root.now l.names.items l.parts.items l.planned c.args.at c.requires.within ∙ shape) (c.is_product.ensures c.if-is_product.true) among (never_zero_at C (shape_at ns p.0) (defined_at l.map.now l.root.now l.names.items l.parts.items l.planned p.0 p.1) p.3) h))
