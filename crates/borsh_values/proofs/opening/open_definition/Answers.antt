use Rattle.std.proofs.Common.{arith, subst, ◌∙◌, ap, sym, inl, inr, Some}
use Rattle.borsh_walks.specs.Definitions.{shape_of}
use Rattle.borsh_plan.specs.{Names.IsPlaceOf, Plan.definitions_of, Plan.names_of}
use Rattle.borsh_plan.proofs.Laws.{defined_at}
use Rattle.borsh_values.proofs.Bytes.{small_bytes}
use Rattle.borsh_values.proofs.TakesLaws.{opens_primitive, opens_product, opens_sequence, no_element, refuses_primitive}
use Rattle.borsh_values.proofs.TagLaws.{tables_kept}
use Rattle.borsh_values.proofs.opening.open_definition.Goals as goal

pub returns-then-bytes-size-clause-opened : goal.returns-then-bytes-size-clause-opened
returns-then-bytes-size-clause-opened c =
    let l = c.args.plan.now in
    refuses_primitive (definitions_of l) (names_of l) c.args.at c.requires.within _ c.from-size.result (shape_of c.args.definition.now) c.args.bytes.now (ap (λ d. shape_of d) c.in-Primitive.is) c.from-size.ensures c.if-bytes-size.true

pub returns-else-bytes-size-clause-opened : goal.returns-else-bytes-size-clause-opened
returns-else-bytes-size-clause-opened c =
    let l = c.args.plan.now in
    opens_primitive (definitions_of l) (names_of l) c.args.at c.requires.within _ c.from-size.result (shape_of c.args.definition.now) c.args.bytes.now (ap (λ d. shape_of d) c.in-Primitive.is) c.from-size.ensures c.if-bytes-size.false (small_bytes c.args.bytes.now (λ k. let b = c.type_inv.bytes k in omega (arith, b)))

pub returns-in-Tuple-clause-opened : goal.returns-in-Tuple-clause-opened
returns-in-Tuple-clause-opened c =
    let l = c.args.plan.now in
    elim c.in-Tuple.is [
      | inl h ↦ opens_product (definitions_of l) (names_of l) c.args.at c.requires.within _ (shape_of c.args.definition.now) c.args.bytes.now (ap (λ d. shape_of d) h.1) c.requires.shape
      | inr h ↦ opens_product (definitions_of l) (names_of l) c.args.at c.requires.within _ (shape_of c.args.definition.now) c.args.bytes.now (ap (λ d. shape_of d) h.1) c.requires.shape
    ]

pub returns-in-Tuple-2-clause-opened : goal.returns-in-Tuple-2-clause-opened
returns-in-Tuple-2-clause-opened c =
    let l = c.args.plan.now in
    elim c.in-Tuple.is [
      | inl h ↦ opens_product (definitions_of l) (names_of l) c.args.at c.requires.within _ (shape_of c.args.definition.now) c.args.bytes.now (ap (λ d. shape_of d) h.1) c.requires.shape
      | inr h ↦ opens_product (definitions_of l) (names_of l) c.args.at c.requires.within _ (shape_of c.args.definition.now) c.args.bytes.now (ap (λ d. shape_of d) h.1) c.requires.shape
    ]

pub returns-in-Some-clause-opened : goal.returns-in-Some-clause-opened
returns-in-Some-clause-opened c =
    let l = c.args.plan.now in
    let p = subst (λ o. IsPlaceOf (names_of l) c.args.at 0 o) c.in-Some.is c.part.ensures.place in
    opens_sequence (definitions_of l) (names_of l) c.args.at c.requires.within _ _ _ c.in-Some.element _ (shape_of c.args.definition.now) c.args.bytes.now c.open_sequence.result (ap (λ d. shape_of d) c.in-Sequence.is) c.requires.shape p c.open_sequence.ensures.opened

pub returns-in-None-clause-opened : goal.returns-in-None-clause-opened
returns-in-None-clause-opened c =
    let l = c.args.plan.now in
    let p = subst (λ o. IsPlaceOf (names_of l) c.args.at 0 o) c.in-None.is c.part.ensures.place in
    absurd (no_element (definitions_of l) (names_of l) c.args.at c.requires.within _ _ _ _ (shape_of c.args.definition.now) (ap (λ d. shape_of d) c.in-Sequence.is) c.requires.shape p)

pub open_enum-requires-clause-shape : goal.open_enum-requires-clause-shape
open_enum-requires-clause-shape c = c.requires.shape ∙ ap (λ d. Some (shape_of d)) c.in-Enum.is

pub open_enum-requires-clause-table : goal.open_enum-requires-clause-table
open_enum-requires-clause-table c =
    let l = c.args.plan.now in
    let d = defined_at l c.args.at c.requires.within in
    c.requires.tables c.args.name.now _ _ (ap (λ x. definitions_of l x) (sym c.requires.name) ∙ d ∙ c.requires.shape ∙ ap (λ d. Some (shape_of d)) c.in-Enum.is)

pub returns-in-Enum-clause-opened : goal.returns-in-Enum-clause-opened
returns-in-Enum-clause-opened c = rw c.in-Enum.is c.open_enum.ensures.opened

pub returns-in-Enum-clause-tables : goal.returns-in-Enum-clause-tables
returns-in-Enum-clause-tables c =
    let l = c.args.plan.now in
    let d = defined_at l c.args.at c.requires.within in
    let e = ap (λ x. definitions_of l x) (sym c.requires.name) ∙ d ∙ c.requires.shape ∙ ap (λ d. Some (shape_of d)) c.in-Enum.is in
    tables_kept (definitions_of l) c.args.name.now _ _ c.args.tables.now c.open_enum.new.tables e c.requires.tables c.open_enum.ensures.kept
