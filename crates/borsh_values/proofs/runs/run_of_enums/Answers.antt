use Rattle.std.proofs.Common.{◌≡◌, ◌<◌, ◌∷◌, subst, sym, arith, Some, inl, inr, []}
use Rattle.std.specs.Prelude.{All, IfSome, slice_get}
use Rattle.std.proofs.lemmas.List.Elements.{All-drop}
use Rattle.borsh_plan.specs.{Names.name_at, Plan.definitions_of, Plan.names_of}
use Rattle.borsh_values.specs.Free.{AreFirst, IsRightLength, IsTagLength}
use Rattle.borsh_values.proofs.Bytes.{small_bytes}
use Rattle.borsh_values.proofs.FreeLaws.{first_none, first_by_tag, first_copy}
use Rattle.borsh_values.proofs.runs.run_of_enums.Goals as goal

pub loop-values-init : goal.loop-values-init
loop-values-init c = record { few = omega arith; first = first_none (definitions_of c.args.plan.now) (name_at (names_of c.args.plan.now) c.args.at) c.args.left.now; last = c.length_by_tag-length.ensures; other = c.length_by_tag-length.ensures }

pub loop-values-preserved : goal.loop-values-preserved
loop-values-preserved c =
    let l = c.args.plan.now in
    let C = definitions_of l in
    let x = name_at (names_of l) c.args.at in
    let i = c.loop-values.invariant in
    let n = c.in-Some-length.length in
    let known = c.length_of-known.result in
    let right = c.length_of-known.ensures.right in
    let tag : slice_get c.after-next.result.now 0 ≡ Some known.tag = (let v = c.in-Some.ensures.value in let s = c.length_of-known.ensures.same in cc) in
    let f : IsTagLength C x known.tag n = subst (λ o. IfSome o (λ n. IsTagLength C x known.tag n)) c.in-Some-length.is right in
    let small = subst (λ b. All (λ b. b < 256) b) (sym c.after-next.ensures) (All-drop (λ b. b < 256) c.loop-values.taken c.args.left.now (small_bytes c.args.left.now (λ k. let b = c.type_inv.left k in omega (arith, b)))) in
    let first = first_by_tag C x c.after-next.result.now known.tag n f tag c.if-length-next.false small in
    record {
      few = omega arith;
      first = first_copy C x c.args.left.now c.loop-values.values c.loop-values.taken n i.first (subst (λ b. AreFirst C (x ∷ []) b n) c.after-next.ensures first);
      last = right;
      other = elim c.kept-other.ensures [ inl e ↦ subst (λ t. IsRightLength C x t) (sym e) i.last | inr e ↦ subst (λ t. IsRightLength C x t) (sym e) i.other ];
    }
