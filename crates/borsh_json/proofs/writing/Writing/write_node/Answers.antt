use Rattle.std.proofs.{Common.{◌∷◌, ◌++◌, Option, None, refl, sym, ◌∙◌, ap, subst, length}, lemmas.Result.{err_from_is_err_and}}
use Rattle.borsh_plan.specs.Plan.{root_of}
use Rattle.borsh_values.specs.{declared.nodes.Node.{Node}, Walks.{FindsAt}}
use Rattle.borsh_json.specs.{declared.error.JsonError.{JsonError}, declared.position.Parts.{Parts}, declared.position.Place.{Place}, declared.writing.Writing.{Writing}, Forms.{Form, form_of}, Found.{forms_of, names_of}, Frames.{steps_at, steps_through}, Places.{IsKindOf}, Writes.{names_of_all, names_of_rest, AreCalled, IsWrittenAs, Stops}}
use Rattle.borsh_json.proofs.{CheckedLaws.{plain_due, same_opened, value_due}, WriterLaws.{undecided, stops_value, stops_full, stops_either, leaf_room, leaf_begun, place_begun, new_marked, in_order, in_turn, still_rest, node_is, node_only, node_opened, node_form, node_on, is_deep, room_awaiting}}
use Rattle.borsh_json.proofs.writing.Writing.write_node.Goals as goal

pub returns-in_default-clause-part : goal.returns-in_default-clause-part
returns-in_default-clause-part c x f i e kind order tells full has a =
    let d = c.args.json.now in
    let w = c.args.self.now in
    let s = a.state in
    undecided d w.walk c.open.new.self c.args.at x i a.writer.plan c.name.result w.bytes.now s.done (names_of_all (s.inner ∷ s.around)) (c.name.ensures x i) (subst (λ (o : Option Node). FindsAt c.args.at w.walk c.open.new.self o) c.in_default.is c.in_ok-node.ensures.finds) s.halved

pub returns-in_err-check_elements-clause-part : goal.returns-in_err-check_elements-clause-part
returns-in_err-check_elements-clause-part c x f i e kind order tells full has a =
    let d = c.args.json.now in
    let w = c.args.self.now in
    let F = forms_of d in
    let ns = names_of d in
    let n = c.in-Some.node in
    let walk = c.open.new.self in
    let l = a.writer.plan in
    let o = c.in_ok-node.field-0 in
    let t = c.in_ok-node.ensures.finds in
    let h = node_is d w walk c.args.at x l i o n c.in-Some.is t in
    let op = node_opened d w walk c.args.at x l i o n c.in-Some.is t in
    let kd = subst (λ (f : Form). IsKindOf F ns x f c.args.kind) (node_form d w walk c.args.at x l i o n c.in-Some.is t f e) kind in
    let q = c.from_residual-in_err-check_elements in
    let p = err_from_is_err_and q.result q.ensures.1 in
    rw (p.1, p.2) (stops_either (forms_of d) (root_of d.plan.now) w.bytes.now w.position.root.now a.writer.root (length w.position.outer.items) (steps_through w.position.outer.items ++ steps_at w.position.place) a.state.done n.bytes.now walk.left.now w.walk.left.now x h.bytes c.in_err-check_elements.field-0.0 (is_deep d w x a) (c.in_err-check_elements.ensures.full (forms_of d) (names_of d) x h.parts walk.left.now op kd order))

pub returns-in_err-enter-in-Ok-Some-clause-part : goal.returns-in_err-enter-in-Ok-Some-clause-part
returns-in_err-enter-in-Ok-Some-clause-part c x f i e kind order tells full has a =
    let d = c.args.json.now in
    let w = c.args.self.now in
    let q = c.from_residual-in_err-enter-in-Ok-Some in
    let p = err_from_is_err_and q.result q.ensures.1 in
    rw (p.1, p.2) (stops_full (forms_of d) (root_of d.plan.now) w.bytes.now w.position.root.now a.writer.root (length w.position.outer.items) (steps_through w.position.outer.items ++ steps_at w.position.place) a.state.done w.walk.left.now x c.in_err-enter-in-Ok-Some.field-0.0 (is_deep d w x a) c.in_err-enter-in-Ok-Some.ensures.full c.in_err-enter-in-Ok-Some.ensures.path)

pub returns-in_ok-enter-in-Ok-Some-clause-part : goal.returns-in_ok-enter-in-Ok-Some-clause-part
returns-in_ok-enter-in-Ok-Some-clause-part c x f i e kind order tells full has a =
    let d = c.args.json.now in
    let w = c.args.self.now in
    let F = forms_of d in
    let ns = names_of d in
    let n = c.in-Some.node in
    let walk = c.open.new.self in
    let l = a.writer.plan in
    let o = c.in_ok-node.field-0 in
    let t = c.in_ok-node.ensures.finds in
    let h = node_is d w walk c.args.at x l i o n c.in-Some.is t in
    let op = node_opened d w walk c.args.at x l i o n c.in-Some.is t in
    let kd = subst (λ (f : Form). IsKindOf F ns x f c.args.kind) (node_form d w walk c.args.at x l i o n c.in-Some.is t f e) kind in
    let written = subst (λ (p : Option Place). IsWrittenAs F ns c.args.kind x (form_of n.definition.now) n.bytes.now w.out c.begin_value.new.out p) c.in-Ok-Some.field-0-is (c.in-Ok-Some.ensures has x h.parts i op kd) in
    let new : Writing = record { walk = walk; position = c.enter.new.self; out = c.begin_value.new.out; bytes = w.bytes } in
    let z = c.in_ok-enter-in-Ok-Some.ensures in
    let q = c.in_order.result in
    let s = c.in_order.ensures.same in
    let rises = c.in_ok-check_elements.ensures in
    let is = same_opened F (form_of n.definition.now) (names_of_rest written.0) full op.0 written.3 op.2 (node_only d w walk c.args.at x l i o n c.in-Some.is t) in
    let due = value_due d x (form_of n.definition.now) n.bytes.now (names_of_rest written.0) is c.args.kind c.order_of.result has kd order tells rises.bytes rises.numbers c.order_of.ensures.all in
    place_begun d w new x (form_of n.definition.now) n.bytes.now a refl (ap (λ l. l.now) c.in_ok-node.ensures.plan ∙ l) z.root h.bytes h.next (node_on d w walk c.args.at x l i o n c.in-Some.is t) q z.room (written.0, still_rest F ns c.in-Ok-Some.place q written.0 s.0 s.1 s.2 written.1, written.2, is, subst (λ (k : Parts). AreCalled (form_of n.definition.now) n.bytes.now k (names_of_rest written.0)) (sym s.0) written.5) due.0 due.1
    (new_marked d w.bytes.now x due.0 (form_of n.definition.now) c.args.kind c.in-Ok-Some.place q written.4 kd order s.0 s.1 s.2 (in_order d w.bytes.now x q.parts due.0 c.args.kind c.order_of.result q.ascent order c.order_of.ensures.list c.in_order.ensures.ascent) (in_turn d w.bytes.now due.0 c.order_of.result q.ascent c.in_order.ensures.ascent due.2)) z.place z.outer

pub returns-in-Ok-None-clause-part : goal.returns-in-Ok-None-clause-part
returns-in-Ok-None-clause-part c x f i e kind order tells full has a =
    let d = c.args.json.now in
    let w = c.args.self.now in
    let F = forms_of d in
    let ns = names_of d in
    let n = c.in-Some.node in
    let walk = c.open.new.self in
    let l = a.writer.plan in
    let o = c.in_ok-node.field-0 in
    let t = c.in_ok-node.ensures.finds in
    let h = node_is d w walk c.args.at x l i o n c.in-Some.is t in
    let op = node_opened d w walk c.args.at x l i o n c.in-Some.is t in
    let kd = subst (λ (f : Form). IsKindOf F ns x f c.args.kind) (node_form d w walk c.args.at x l i o n c.in-Some.is t f e) kind in
    let written = subst (λ (p : Option Place). IsWrittenAs F ns c.args.kind x (form_of n.definition.now) n.bytes.now w.out c.begin_value.new.out p) c.in-Ok-None.field-0-is (c.in-Ok-None.ensures has x h.parts i op kd) in
    let new : Writing = record { walk = walk; position = w.position; out = c.begin_value.new.out; bytes = w.bytes } in
    let rises = c.in_ok-check_elements.ensures in
    let is = same_opened F (form_of n.definition.now) written.1 full op.0 written.2 op.2 (node_only d w walk c.args.at x l i o n c.in-Some.is t) in
    let due = value_due d x (form_of n.definition.now) n.bytes.now written.1 is c.args.kind None has kd order tells rises.bytes rises.numbers (λ es q. absurd (written.4 es q)) in
    leaf_begun d w new x (form_of n.definition.now) n.bytes.now a refl (ap (λ l. l.now) c.in_ok-node.ensures.plan ∙ l) refl h.bytes h.next (node_on d w walk c.args.at x l i o n c.in-Some.is t) c.args.kind (leaf_room c.args.kind a.room (length w.position.outer.items) (room_awaiting d w x a) c.in_ok-check_elements.ensures.room) written is (plain_due F x n.bytes.now written.1 due.0 due.1 due.2) refl refl

pub returns-in-Err-clause-part : goal.returns-in-Err-clause-part
returns-in-Err-clause-part c x f i e kind order tells full has a =
    let d = c.args.json.now in
    let w = c.args.self.now in
    let F = forms_of d in
    let ns = names_of d in
    let root = root_of d.plan.now in
    let n = c.in-Some.node in
    let walk = c.open.new.self in
    let l = a.writer.plan in
    let o = c.in_ok-node.field-0 in
    let t = c.in_ok-node.ensures.finds in
    let s = a.state in
    let h = node_is d w walk c.args.at x l i o n c.in-Some.is t in
    let op = node_opened d w walk c.args.at x l i o n c.in-Some.is t in
    let kd = subst (λ (f : Form). IsKindOf F ns x f c.args.kind) (node_form d w walk c.args.at x l i o n c.in-Some.is t f e) kind in
    subst (λ (e : JsonError). Stops F root w.bytes.now e) (sym c.into.ensures) (stops_value F root w.bytes.now w.position.root.now a.writer.root (length w.position.outer.items) (steps_through w.position.outer.items ++ steps_at w.position.place) s.done n.bytes.now walk.left.now w.walk.left.now x h.bytes (is_deep d w x a) c.in-Err.error c.refused_value.result c.refused_value.ensures.same c.refused_value.ensures.path (c.in-Err.ensures has x h.parts i op kd))
