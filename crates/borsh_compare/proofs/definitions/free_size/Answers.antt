use Rattle.std.proofs.Common.{◌∙◌, sym, ap, subst, arith, Some}
use Rattle.borsh_plan.specs.Names.{name_at}
use Rattle.borsh_plan.specs.Plan.{definitions_of, names_of}
use Rattle.borsh_walks.specs.Container.{primitive}
use Rattle.borsh_walks.specs.Definitions.{shape_of}
use Rattle.borsh_values.specs.Free.{FreeSize}
use Rattle.borsh_values.proofs.FreeLaws.{free_primitive, size_free}
use Rattle.borsh_compare.proofs.Parts.{shape_defined}
use Rattle.borsh_compare.proofs.definitions.free_size.Goals as goal

pub returns-then-size-ne0 : goal.returns-then-size-ne0
returns-then-size-ne0 c =
    let n = c.size-size.result in
    let f = c.if-size-ne0.true in
    size_free c.args.plan.now c.args.at n c.size-size.ensures (let a = c.if-at-len.false in let b = c.len.ensures in omega (arith, a, b)) (omega (arith, f))

pub returns-in-Primitive : goal.returns-in-Primitive
returns-in-Primitive c =
    let p = c.args.plan.now in
    let s = sym (c.in_ok-size.ensures.shape) ∙ ap (λ d. Some (shape_of d)) c.in-Primitive.is in
    subst (λ n. FreeSize (definitions_of p) (name_at (names_of p) c.args.at) n) (sym c.from.ensures) (free_primitive (definitions_of p) c.in-Primitive.size (shape_defined p c.args.at (primitive c.in-Primitive.size) s))
