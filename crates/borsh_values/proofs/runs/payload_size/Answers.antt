use Rattle.std.proofs.Common.{◌∙◌, ap, subst, sym}
use Rattle.borsh_walks.specs.Definitions.{shape_of}
use Rattle.borsh_plan.specs.{Names.parts_in, Names.shape_at, Plan.definitions_of, Plan.names_of}
use Rattle.borsh_plan.proofs.Laws.{defined_at}
use Rattle.borsh_values.specs.Free.{FreeSizes}
use Rattle.borsh_values.proofs.FreeLaws.{free_none, free_named, free_parts, size_free, no_first}
use Rattle.borsh_values.proofs.runs.payload_size.Goals as goal

pub returns-then-size-gt0 : goal.returns-then-size-gt0
returns-then-size-gt0 c =
    let l = c.args.plan.now in
    size_free l c.args.part c.size-size.result c.size-size.ensures c.requires.within c.if-size-gt0.true

pub returns-in-Some-Primitive-eq0 : goal.returns-in-Some-Primitive-eq0
returns-in-Some-Primitive-eq0 c =
    let l = c.args.plan.now in
    let d = c.in-Some-Primitive-eq0 in
    let s = shape_of d.field-0.now in
    let defined = defined_at l c.args.part c.requires.within ∙ sym d.ensures.shape in
    free_named (definitions_of l) _ 0 s defined (ap (λ d. shape_of d) d.field-0-is) (sym d.field-0-0-test)

pub returns-in-None : goal.returns-in-None
returns-in-None c =
    let l = c.args.plan.now in
    let C = definitions_of l in
    let d = c.in-Some-Struct in
    let o = shape_at (names_of l) c.args.part in
    let s = shape_of d.field-0.now in
    let defined = defined_at l c.args.part c.requires.within ∙ sym d.ensures.shape in
    let z = no_first (parts_in o) c.in-None.ensures.place in
    free_parts C _ 0 o s defined (ap (λ d. shape_of d) d.field-0-is) (sym d.ensures.shape) (subst (λ q. FreeSizes C q 0) z (free_none C))
