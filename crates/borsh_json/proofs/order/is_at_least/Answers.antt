use Rattle.std.proofs.Common.{List, [], ◌∷◌, refl, subst, sym, reverse, Ordering}
use Rattle.borsh_json.specs.{declared.order.Next.{Next}, declared.order.Pending.{Pending}, Found.{forms_of, names_of}, Ordered.{a_value}, Orders.{ArePending, FrontTells, NextTells}}
use Rattle.borsh_json.proofs.PendingLaws.{alike_both, front_answers, pending_answers}
use Rattle.borsh_json.proofs.order.is_at_least.Goals as goal

pub loop-init : goal.loop-init
loop-init c x o =
    let d = c.args.json.now in
    (a_value x, [], o, subst (λ (ps : List Pending). ArePending (forms_of d) (names_of d) (reverse ps) []) (sym c.new-pending.ensures.items) refl, ((λ h. h), (λ h. h)))

pub returns-in_default : goal.returns-in_default
returns-in_default c x o =
    let d = c.args.json.now in
    let i = c.loop.invariant x o in
    let p = c.compare_front.new.pair in
    front_answers (forms_of d) (names_of d) (a_value x ∷ []) c.args.left.now c.args.right.now (i.0 ∷ i.1) c.loop.pair.left.now c.loop.pair.right.now p.left.now p.right.now c.compare_front.new.pending.items c.in_ok-front.front c.is_ge-in_default.result i.4 (c.in_ok-front.ensures i.0 i.1 i.2 i.3) c.in_default.not-Equal c.is_ge-in_default.ensures

pub returns-in-Decided : goal.returns-in-Decided
returns-in-Decided c x o =
    let d = c.args.json.now in
    let p = c.compare_front.new.pair in
    let i = c.loop.invariant x o in
    let f = subst (λ (o : Ordering). FrontTells d c.compare_front.new.pending.items (i.0 ∷ i.1) c.loop.pair.left.now c.loop.pair.right.now p.left.now p.right.now o) c.in-Equal.is (c.in_ok-front.ensures i.0 i.1 i.2 i.3) in
    let n = subst (λ (n : Next). NextTells d c.next_value.new.pending.items f.0 p.left.now p.right.now n) c.in-Decided.is (c.in_ok-next-in-Equal.ensures f.0 f.1 p.left.now p.right.now) in
    pending_answers (forms_of d) (names_of d) (a_value x ∷ []) c.args.left.now c.args.right.now f.0 p.left.now p.right.now c.in-Decided.ordering c.is_ge.result (alike_both (forms_of d) (names_of d) i.4 f.2) n c.is_ge.ensures

pub loop-preserved : goal.loop-preserved
loop-preserved c x o =
    let d = c.args.json.now in
    let p = c.compare_front.new.pair in
    let i = c.loop.invariant x o in
    let f = subst (λ (o : Ordering). FrontTells d c.compare_front.new.pending.items (i.0 ∷ i.1) c.loop.pair.left.now c.loop.pair.right.now p.left.now p.right.now o) c.in-Equal.is (c.in_ok-front.ensures i.0 i.1 i.2 i.3) in
    let n = subst (λ (n : Next). NextTells d c.next_value.new.pending.items f.0 p.left.now p.right.now n) c.in-Value.is (c.in_ok-next-in-Equal.ensures f.0 f.1 p.left.now p.right.now) in
    (n.0, n.1, n.2, n.3, alike_both (forms_of d) (names_of d) i.4 (alike_both (forms_of d) (names_of d) f.2 n.4))
