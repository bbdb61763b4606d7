use Rattle.std.proofs.Common.{◌≡◌, ◌⊎◌, inl, inr, ◌∙◌, ◌++◌, ◌∷◌, [], length, ap, arith}
use Rattle.borsh_json.specs.{declared.order.Pending.{Pending}, Forms.{tuple}, Found.{names_of}}
use Rattle.borsh_json.proofs.{PendingLaws.{alike_both, both_end, next_elements, next_part, nothing_pends, one_ends, part_there, end_copies, next_copy, copied_at, next_part_copy, end_part_copies, pending_decides}, order.next_value.Goals.{else-left-gt0-via-then-left-gt0+else-right-gt0, else-left-gt0-via-else-left-gt0, else-count-gt0-via-then-count-gt0+else-not-is_zero_size, else-count-gt0-via-else-count-gt0}}
use Rattle.borsh_json.proofs.order.next_value.Goals as goal

pub loop-next-init : goal.loop-next-init
loop-next-init c ts a = (ts, a, λ L R. ((λ h. h), (λ h. h)))

pub returns-then-right-gt0 : goal.returns-then-right-gt0
returns-then-right-gt0 c ts a L R =
    let ps = c.pop.new.self.items in
    let q = c.in-Some.ensures.items ∙ ap (λ (p : Pending). ps ++ p ∷ []) c.in-Elements.is in
    let i = c.loop-next.invariant ts a in
    let e = next_elements _ _ c.loop-next.pending.items ps i.0 i.1 c.push.new.self.items c.in-Elements.at c.in-Elements.left c.in-Elements.right c.known_order.result q c.if-left-gt0.true c.if-right-gt0.true c.known_order.ensures c.in_ok-push-in-Elements.ensures.items in
    (e.0, e.1, e.2, e.3, alike_both _ (names_of c.args.json.now) (i.2 L R) (e.4 L R))

pub returns-then-left-right : goal.returns-then-left-right
returns-then-left-right c ts a L R =
    let ps = c.pop.new.self.items in
    let n = c.in-Elements.left in
    let m = c.in-Elements.right in
    let q = c.in-Some.ensures.items ∙ ap (λ (p : Pending). ps ++ p ∷ []) c.in-Elements.is in
    let z : (n ≡ 0) ⊎ (m ≡ 0) = elim c.else-left-gt0.branch [
      | else-left-gt0-via-then-left-gt0+else-right-gt0 w ↦ inr (let k = w.if-right-gt0.false in omega arith)
      | else-left-gt0-via-else-left-gt0 w ↦ inl (let k = w.if-left-gt0.false in omega arith)
    ] in
    let i = c.loop-next.invariant ts a in
    pending_decides _ (names_of c.args.json.now) ts i.0 L R c.cmp.result _ (i.2 L R) c.cmp.ensures (one_ends _ _ c.loop-next.pending.items ps i.0 i.1 c.in-Elements.at n m q z c.if-left-right.true L R)

pub loop-next-preserved-else-left-right : goal.loop-next-preserved-else-left-right
loop-next-preserved-else-left-right c ts a =
    let ps = c.pop.new.self.items in
    let n = c.in-Elements.left in
    let m = c.in-Elements.right in
    let q = c.in-Some.ensures.items ∙ ap (λ (p : Pending). ps ++ p ∷ []) c.in-Elements.is in
    let z : (n ≡ 0) ⊎ (m ≡ 0) = elim c.else-left-gt0.branch [
      | else-left-gt0-via-then-left-gt0+else-right-gt0 w ↦ inr (let k = w.if-right-gt0.false in omega arith)
      | else-left-gt0-via-else-left-gt0 w ↦ inl (let k = w.if-left-gt0.false in omega arith)
    ] in
    let i = c.loop-next.invariant ts a in
    let e = both_end _ _ c.loop-next.pending.items ps i.0 i.1 c.in-Elements.at n m q z c.if-left-right.false in
    (e.0, e.1, λ L R. alike_both _ (names_of c.args.json.now) (i.2 L R) (e.2 L R))

pub returns-then-index-count : goal.returns-then-index-count
returns-then-index-count c ts a L R =
    let ps = c.pop.new.self.items in
    let q = c.in-Some.ensures.items ∙ ap (λ (p : Pending). ps ++ p ∷ []) c.in-Parts.is in
    let i = c.loop-next.invariant ts a in
    let t = part_there _ _ c.loop-next.pending.items ps i.0 i.1 c.in-Parts.at c.in-Parts.count c.in-Parts.index q c.if-index-count.true in
    let k = c.part-part.ensures t.0 t.2 (tuple t.1) t.3 t.4 t.5 in
    let e = next_part _ _ c.loop-next.pending.items ps i.0 i.1 _ c.in-Parts.at c.in-Parts.count c.in-Parts.index c.known_order-then-index-count.result q c.if-index-count.true (c.known_order-then-index-count.ensures t.2 k) c.in_ok-push-in-Parts.ensures.items in
    (e.0, e.1, e.2, e.3, alike_both _ (names_of c.args.json.now) (i.2 L R) (e.4 L R))

pub returns-then-not-is_zero_size : goal.returns-then-not-is_zero_size
returns-then-not-is_zero_size c ts a L R =
    let ps = c.pop.new.self.items in
    let q = c.in-Some.ensures.items ∙ ap (λ (p : Pending). ps ++ p ∷ []) c.in-Copies.is in
    let i = c.loop-next.invariant ts a in
    let e = next_copy _ _ c.loop-next.pending.items ps i.0 i.1 _ c.in-Copies.at c.in-Copies.count q c.if-count-gt0.true c.in_ok-push-in-Copies.ensures.items in
    (e.0, e.1, e.2, e.3, alike_both _ (names_of c.args.json.now) (i.2 L R) (e.4 L R))

pub returns-in-Some-part_at : goal.returns-in-Some-part_at
returns-in-Some-part_at c ts a L R =
    let ps = c.pop.new.self.items in
    let q = c.in-Some.ensures.items ∙ ap (λ (p : Pending). ps ++ p ∷ []) c.in-PartCopies.is in
    let i = c.loop-next.invariant ts a in
    let t = copied_at _ _ c.loop-next.pending.items ps i.0 i.1 c.in-PartCopies.at c.in-PartCopies.index q in
    let e = next_part_copy _ _ c.loop-next.pending.items ps i.0 i.1 _ c.in-PartCopies.at c.in-PartCopies.index c.in-Some-part_at.part q (c.in-Some-part_at.ensures.part t.0 t.1 t.2 t.3) c.in_ok-push-in-PartCopies.ensures.items in
    (e.0, e.1, e.2, e.3, alike_both _ (names_of c.args.json.now) (i.2 L R) (e.4 L R))

pub loop-next-preserved-else-count-gt0 : goal.loop-next-preserved-else-count-gt0
loop-next-preserved-else-count-gt0 c ts a =
    let ps = c.pop.new.self.items in
    let q = c.in-Some.ensures.items ∙ ap (λ (p : Pending). ps ++ p ∷ []) c.in-Copies.is in
    let i = c.loop-next.invariant ts a in
    let n = c.in-Copies.count in
    let e = end_copies _ _ c.loop-next.pending.items ps i.0 i.1 c.in-Copies.at n q (λ x k. elim c.else-count-gt0.branch [
      | else-count-gt0-via-then-count-gt0+else-not-is_zero_size w ↦ inr ((w.is_zero_size.ensures x k).0 w.if-not-is_zero_size.false)
      | else-count-gt0-via-else-count-gt0 w ↦ inl (let z : n ≡ 0 = (let h = w.if-count-gt0.false in omega arith) in z)
    ]) in
    (e.0, e.1, λ L R. alike_both _ (names_of c.args.json.now) (i.2 L R) (e.2 L R))

pub loop-next-preserved : goal.loop-next-preserved
loop-next-preserved c ts a =
    let ps = c.pop.new.self.items in
    let q = c.in-Some.ensures.items ∙ ap (λ (p : Pending). ps ++ p ∷ []) c.in-PartCopies.is in
    let i = c.loop-next.invariant ts a in
    let t = copied_at _ _ c.loop-next.pending.items ps i.0 i.1 c.in-PartCopies.at c.in-PartCopies.index q in
    let e = end_part_copies _ _ c.loop-next.pending.items ps i.0 i.1 c.in-PartCopies.at c.in-PartCopies.index q (c.in_default-part_at.ensures.part t.0 t.1 t.2 t.3) in
    (e.0, e.1, λ L R. alike_both _ (names_of c.args.json.now) (i.2 L R) (e.2 L R))

pub returns : goal.returns
returns c ts a L R =
    let i = c.loop-next.invariant ts a in
    let z : length c.loop-next.pending.items ≡ 0 = (let e = c.in_default.ensures.cases in let k = c.loop-next.pending.ok.0 in omega arith) in
    (i.2 L R).0 (nothing_pends _ (names_of c.args.json.now) c.loop-next.pending.items i.0 L R z i.1)
