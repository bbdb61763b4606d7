use Rattle.std.proofs.Common.{◌∙◌, ap, sym, subst, arith}
use Rattle.borsh_walks.specs.Definitions.{shape_of}
use Rattle.borsh_plan.specs.{Names.name_at, Plan.definitions_of, Plan.names_of}
use Rattle.borsh_values.specs.declared.frames.Rest.TheVariants.{Copies}
use Rattle.borsh_plan.proofs.Laws.{defined_at}
use Rattle.borsh_values.specs.Free.{FreeSize}
use Rattle.borsh_values.specs.Cursor.{OpensAs, Takes, remaining}
use Rattle.borsh_values.proofs.Bytes.{small_bytes}
use Rattle.borsh_values.proofs.FreeLaws.{first_free, first_taken, free_one, size_free}
use Rattle.borsh_values.proofs.TakesLaws.{opens_sequence}
use Rattle.borsh_values.proofs.runs.value_length.Goals as goal

pub returns-then-size-left : goal.returns-then-size-left
returns-then-size-left c =
    let l = c.args.plan.now in
    let C = definitions_of l in
    let x = name_at (names_of l) c.args.at in
    let size = c.size-size.result in
    let f : FreeSize C x size = size_free l c.args.at size c.size-size.ensures c.requires.within c.if-size-gt0.true in
    first_free C c.args.left.now size (free_one C size f) c.if-size-left.true (small_bytes c.args.left.now (λ k. let b = c.type_inv.left k in omega (arith, b)))

pub returns-in-Taken-default-Copies-default-eq0 : goal.returns-in-Taken-default-Copies-default-eq0
returns-in-Taken-default-Copies-default-eq0 c =
    let l = c.args.plan.now in
    let C = definitions_of l in
    let ns = names_of l in
    let t = c.in-Taken-default-Copies-default-eq0 in
    let s = shape_of c.in_ok-definition.definition.now in
    let there = sym c.in_ok-definition.ensures.shape in
    let left = c.args.left.now in
    let o = opens_sequence C ns c.args.at c.requires.within _ _ _ c.in_ok-element-in-Sequence.element _ s left c.open_sequence.result (ap (λ d. shape_of d) c.in-Sequence.is) there c.in_ok-element-in-Sequence.ensures.place c.open_sequence.ensures.opened in
    let q = subst (λ o. OpensAs C ns s left o) t.is o in
    let none = ap (λ r. remaining ns r) (t.field-1-is ∙ ap (λ k. Copies t.field-1-0 k) t.field-1-1-test) in
    first_taken C s left t.taken (defined_at l c.args.at c.requires.within ∙ there) (subst (λ r. Takes C s left t.taken r) none q.0)
