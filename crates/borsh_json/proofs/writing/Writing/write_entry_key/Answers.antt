use Rattle.std.proofs.Common.{◌∷◌, ◌++◌, List, replicate, Option, Some, refl, sym, ◌∙◌, ap, subst}
use Rattle.borsh_plan.specs.Plan.{root_of}
use Rattle.borsh_values.specs.{declared.nodes.Node.{Node}, Walks.{FindsAt}}
use Rattle.borsh_json.specs.{declared.error.JsonError.{JsonError}, declared.sources.EntryKey.{EntryKey}, declared.writing.Writing.{Writing}, Forms.{form_of}, Found.{forms_of, names_of}, Frames.{first_steps, steps_through}, InOrder.{Step}, NoJson.{IsOutOfOrder}, Writes.{names_of_all, IsLast, Stops}}
use Rattle.borsh_json.proofs.{WriterLaws.{undecided, entry_of, entry_next, entry_opened, entry_keys, entry_awaits, entry_stops, next_is, node_is, stops_descends}, FallLaws.{key_falls}}
use Rattle.borsh_json.proofs.writing.Writing.write_entry_key.Goals as goal

pub returns-in_default-clause-key : goal.returns-in_default-clause-key
returns-in_default-clause-key c p part a r e b =
    let d = c.args.json.now in
    let w = c.args.self.now in
    let es = c.args.entries in
    let t = entry_of d w.walk.offset p w.position.place part b es a.state.inner e a.state.here in
    let rest = t.value ∷ (replicate t.count t.pair ++ names_of_all a.state.around) in
    undecided d w.walk c.open.new.self es.key t.key t.key_named a.writer.plan c.name.result w.bytes.now a.state.done rest (c.name.ensures t.key t.key_named) (subst (λ (o : Option Node). FindsAt es.key w.walk c.open.new.self o) c.in_default.is c.in_ok-node.ensures.finds) (entry_next d w w p part es a b.1 t)

pub returns-then-not-is_next-clause-key : goal.returns-then-not-is_next-clause-key
returns-then-not-is_next-clause-key c p part a r e b =
    let d = c.args.json.now in
    let w = c.args.self.now in
    let F = forms_of d in
    let ns = names_of d in
    let q = w.position.place in
    let es = c.args.entries in
    let n = c.in-Some.node in
    let o = c.in_ok-node.field-0 in
    let f = c.in_ok-node.ensures.finds in
    let t = entry_of d w.walk.offset p q part b es a.state.inner e a.state.here in
    let new : Writing = record { walk = c.open.new.self; position = w.position; out = w.out; bytes = w.bytes } in
    let h = node_is d w c.open.new.self es.key t.key a.writer.plan t.key_named o n c.in-Some.is f in
    let op = entry_opened d w new p part es a b.1 t o n c.in-Some.is f in
    let ks = entry_keys d w new p part es a b.1 t o n c.in-Some.is f in
    let v = (c.in-Ok.ensures F ns t.key t.keys h.parts op ks).1 in
    subst (λ (e : JsonError). Stops F (root_of d.plan.now) w.bytes.now e) (sym c.into.ensures) (stops_descends F (root_of d.plan.now) w.bytes.now w.position.root.now a.writer.root (steps_through w.position.outer.items ++ first_steps q.parts q.begun) c.refused_element.result c.refused_element.ensures.same c.refused_element.ensures.path
    (subst (λ (l : List Step). IsOutOfOrder F (root_of d.plan.now) w.bytes.now l) (next_is d w p w.walk.offset q part a b) (key_falls d w p a es q.begun part t v.0 n.bytes.now c.open.new.self.left.now h.bytes v.3 c.is_next.result
    (λ last l. c.is_next.ensures F ns t.key (form_of n.definition.now) es.key_kind t.keys last v.0 ks (subst (λ (k : Option EntryKey). IsLast es.key_kind k last) (sym b.2) l) v.1) c.if-not-is_next.true)))

pub returns-else-not-is_next-clause-key : goal.returns-else-not-is_next-clause-key
returns-else-not-is_next-clause-key c p part a r e b =
    let d = c.args.json.now in
    let w = c.args.self.now in
    let q = w.position.place in
    let es = c.args.entries in
    let n = c.in-Some.node in
    let o = c.in_ok-node.field-0 in
    let f = c.in_ok-node.ensures.finds in
    let t = entry_of d w.walk.offset p q part b es a.state.inner e a.state.here in
    let new : Writing = record { walk = c.open.new.self; position = record { alloc = w.position.alloc; root = w.position.root; outer = w.position.outer; place = record { parts = q.parts; begun = q.begun; ascent = q.ascent; last = Some c.in-Ok.key } }; out = c.write_key.new.out; bytes = w.bytes } in
    let h = node_is d w c.open.new.self es.key t.key a.writer.plan t.key_named o n c.in-Some.is f in
    let op = entry_opened d w new p part es a b.1 t o n c.in-Some.is f in
    let ks = entry_keys d w new p part es a b.1 t o n c.in-Some.is f in
    let u = c.in-Ok.ensures (forms_of d) (names_of d) t.key t.keys h.parts op ks in
    let v = u.1 in
    let above = (c.is_next.ensures (forms_of d) (names_of d) t.key (form_of n.definition.now) es.key_kind t.keys t.before v.0 ks (subst (λ (l : Option EntryKey). IsLast es.key_kind l t.before) (sym b.2) t.is_last) v.1).0 c.if-not-is_next.false in
    entry_awaits d w new p part es a b.1 t o n c.in-Some.is f c.in-Ok.key h.parts v.0 b r e refl (ap (λ l. l.now) c.in_ok-node.ensures.plan ∙ a.writer.plan) refl refl refl refl refl refl op.1 u.0 v.1 v.2 v.3 above

pub returns-in-Err-clause-key : goal.returns-in-Err-clause-key
returns-in-Err-clause-key c p part a r e b =
    let d = c.args.json.now in
    let w = c.args.self.now in
    let es = c.args.entries in
    let n = c.in-Some.node in
    let o = c.in_ok-node.field-0 in
    let f = c.in_ok-node.ensures.finds in
    let t = entry_of d w.walk.offset p w.position.place part b es a.state.inner e a.state.here in
    let new : Writing = record { walk = c.open.new.self; position = w.position; out = w.out; bytes = w.bytes } in
    let h = node_is d w c.open.new.self es.key t.key a.writer.plan t.key_named o n c.in-Some.is f in
    let op = entry_opened d w new p part es a b.1 t o n c.in-Some.is f in
    let ks = entry_keys d w new p part es a b.1 t o n c.in-Some.is f in
    let v = c.in-Err.ensures (forms_of d) (names_of d) t.key t.keys h.parts op ks in
    subst (λ (e : JsonError). Stops (forms_of d) (root_of d.plan.now) w.bytes.now e) (sym c.into-in-Err.ensures) (entry_stops d w new p part es a b.1 t o n c.in-Some.is f c.in-Err.error c.refused_key.result b c.refused_key.ensures.same c.refused_key.ensures.path v.1)
