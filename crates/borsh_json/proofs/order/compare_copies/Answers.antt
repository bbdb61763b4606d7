use Rattle.std.proofs.Common.{◌∙◌, map, sym}
use Rattle.borsh_json.specs.{Forms.{form_of}, Ordered.{a_copy}}
use Rattle.borsh_json.proofs.{FoundLaws.{not_true}, OrderLaws.{zero_tells, undefined_tells, differ_tells, no_node_tells, node_tells}, PendingLaws.{turn_other, front_copies}}
use Rattle.borsh_json.proofs.order.compare_copies.Goals as goal

pub returns-then-is_zero_size : goal.returns-then-is_zero_size
returns-then-is_zero_size c x t ts i u a =
    (ts, a, zero_tells _ x t ts _ _ (turn_other _ _ t x c.args.at i u) ((c.is_zero_size.ensures x i).0 c.if-is_zero_size.true))

pub returns-in_default : goal.returns-in_default
returns-in_default c x t ts i u a =
    let full = not_true c.is_zero_size.result (c.is_zero_size.ensures x i) c.if-is_zero_size.false in
    undefined_tells _ x t ts _ _ (turn_other _ _ t x c.args.at i u) full (c.in_default.ensures.kind x i full)

pub returns-in_default-take_same : goal.returns-in_default-take_same
returns-in_default-take_same c x t ts i u a =
    let full = not_true c.is_zero_size.result (c.is_zero_size.ensures x i) c.if-is_zero_size.false in
    let there = (c.in-Some.ensures.kind x i full).0 in
    differ_tells _ x t ts _ _ (turn_other _ _ t x c.args.at i u) full (form_of c.in-Some.definition.now) there (λ xs bs cs l r k. c.in_default-take_same.ensures xs bs cs l r (k ∙ sym c.own_size.ensures))

pub returns-in_ok-push-in-Some-copies_behind : goal.returns-in_ok-push-in-Some-copies_behind
returns-in_ok-push-in-Some-copies_behind c x t ts i u a =
    let q = c.take_same.new.self in
    let full = not_true c.is_zero_size.result (c.is_zero_size.ensures x i) c.if-is_zero_size.false in
    let there = (c.in-Some.ensures.kind x i full).0 in
    let f = form_of c.in-Some.definition.now in
    let own = c.in-Some-take_same.own.now in
    let s = c.in-Some-take_same.ensures in
    let l = s.0 ∙ c.own_size.ensures in
    let n = c.in-Some-copies_behind.ensures x (i, there) l in
    front_copies _ _ c.args.pending.now.items _ c.in-Some-copies_behind.parts t ts (map (λ p. a_copy p) n.0) _ _ q.left.now q.right.now a c.in_ok-push-in-Some-copies_behind.ensures.items n.2
    (node_tells _ x t ts _ _ (turn_other _ _ t x c.args.at i u) full f there own q.left.now q.right.now l s.1 s.2 n.0 n.1)

pub returns-in-None : goal.returns-in-None
returns-in-None c x t ts i u a =
    let q = c.take_same.new.self in
    let full = not_true c.is_zero_size.result (c.is_zero_size.ensures x i) c.if-is_zero_size.false in
    let there = (c.in-Some.ensures.kind x i full).0 in
    let own = c.in-Some-take_same.own.now in
    let s = c.in-Some-take_same.ensures in
    let l = s.0 ∙ c.own_size.ensures in
    no_node_tells _ x t ts _ _ (turn_other _ _ t x c.args.at i u) full (form_of c.in-Some.definition.now) there own q.left.now q.right.now l s.1 s.2 (c.in-None.ensures x (i, there) l)
