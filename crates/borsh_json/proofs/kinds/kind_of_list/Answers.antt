use Rattle.std.proofs.Common.{◌≡◌, ◌-◌, ◌∙◌, inl, inr, Some, arith, option_map, sym, ap, subst}
use Rattle.borsh_plan.specs.Plan.{names_of as plan_names}
use Rattle.borsh_values.specs.Nodes.{packed_size}
use Rattle.borsh_json.specs.{declared.kinds.Elements.{Elements}, Forms.{form_of, sequence, shape_of_form}, Table.{HasKind, list, entries}, Places.{lengths_of}, Found.{forms_of, names_of}}
use Rattle.borsh_json.proofs.{FoundLaws.{on_true, on_false, not_true}, KindOrders.{key_found}, NameLaws.{elements_found, numbers_found, refused, entries_kind, list_kind}, kinds.kind_of_list.Goals.{then-is_zero_size-via-then-is_zero_size, then-is_zero_size-via-else-is_zero_size+then-has_empty_keys}}
use Rattle.borsh_json.proofs.kinds.kind_of_list.Goals as goal

pub returns-then-is_zero_size-clause-kind : goal.returns-then-is_zero_size-clause-kind
returns-then-is_zero_size-clause-kind c = λ w lo hi e q i b x h full.
    let F = forms_of c.args.definitions.now in
    let f : F x ≡ Some (sequence w lo hi e) = h.1 ∙ ap (λ f. Some f) q in
    refused F x full w lo hi e f (elim c.then-is_zero_size.branch [
      | then-is_zero_size-via-then-is_zero_size v ↦ inl ((c.is_zero_size.ensures e i).0 v.if-is_zero_size.true)
      | then-is_zero_size-via-else-is_zero_size+then-has_empty_keys v ↦ (let k = on_true _ v.has_empty_keys.result v.if-has_empty_keys.true (v.has_empty_keys.ensures x (c.collection_of-collection.ensures x h)) in inr (k.0, k.1, k.2, k.3))
    ])

pub returns-in-Some-clause-kind : goal.returns-in-Some-clause-kind
returns-in-Some-clause-kind c = λ w lo hi e q i b x h full.
    let d = c.args.definitions.now in
    let F = forms_of d in
    let f : F x ≡ Some (sequence w lo hi e) = h.1 ∙ ap (λ f. Some f) q in
    let l = c.collection_of-collection.ensures x h in
    let s = c.in-Some.ensures x l in
    let keys = s.5.0 in
    (s.0, s.1, keys, s.2, s.3, subst (λ f. HasKind F x (entries (lengths_of f) keys s.0 s.1)) (sym q) (entries_kind F x full w lo hi e f s.0 s.1 keys s.4 s.5.2), s.5.3)

pub returns-then-size-eq0-clause-kind : goal.returns-then-size-eq0-clause-kind
returns-then-size-eq0-clause-kind c = λ w lo hi e q i b x h full.
    let d = c.args.definitions.now in
    let F = forms_of d in
    let f : F x ≡ Some (sequence w lo hi e) = h.1 ∙ ap (λ f. Some f) q in
    let l = c.collection_of-collection.ensures x h in
    let z = not_true c.is_zero_size.result (c.is_zero_size.ensures e i) c.if-is_zero_size.false in
    let k = on_false _ c.has_empty_keys.result c.if-has_empty_keys.false (c.has_empty_keys.ensures x l) in
    let kind = subst (λ f. HasKind F x (list (lengths_of f) e)) (sym q) (list_kind F x full w lo hi e f b (c.in_default.ensures x l) z k) in
    let size = c.size_of_primitive-size.ensures ∙ ap (λ o. packed_size (option_map shape_of_form o)) (c.get.ensures e i) in
    let es : Elements = record { at = c.args.element; size = c.size_of_primitive-size.result; order = c.order_in-order.result } in
    elements_found F (plan_names d.plan.now) x (form_of c.args.definition.now) e es i kind (sym size ∙ c.if-size-eq0.true)

pub returns-else-size-eq0-clause-kind : goal.returns-else-size-eq0-clause-kind
returns-else-size-eq0-clause-kind c = λ w lo hi e q i b x h full.
    let d = c.args.definitions.now in
    let F = forms_of d in
    let f : F x ≡ Some (sequence w lo hi e) = h.1 ∙ ap (λ f. Some f) q in
    let l = c.collection_of-collection.ensures x h in
    let z = not_true c.is_zero_size.result (c.is_zero_size.ensures e i) c.if-is_zero_size.false in
    let k = on_false _ c.has_empty_keys.result c.if-has_empty_keys.false (c.has_empty_keys.ensures x l) in
    let kind = subst (λ f. HasKind F x (list (lengths_of f) e)) (sym q) (list_kind F x full w lo hi e f b (c.in_default.ensures x l) z k) in
    let size = c.size_of_primitive-size.ensures ∙ ap (λ o. packed_size (option_map shape_of_form o)) (c.get.ensures e i) in
    let some = c.if-size-eq0.false in
    let es : Elements = record { at = c.args.element; size = c.size_of_primitive-size.result; order = c.order_in-order.result } in
    numbers_found F (plan_names d.plan.now) x (form_of c.args.definition.now) e es i kind (c.size_of_primitive-size.result - 1) (omega arith) size

pub returns-in-Some-clause-orders : goal.returns-in-Some-clause-orders
returns-in-Some-clause-orders c = λ s x f.
    let d = c.args.definitions.now in
    let F = forms_of d in
    let ns = names_of d in
    let m = c.in-Some.ensures x (c.collection_of-collection.ensures x f) in
    let t = c.order_of_keys.ensures F ns m.0 (form_of c.in-Some.entries.key_definition.now) m.5.0 m.5.2 m.5.3 in
    ((m.0, m.2, key_found F ns x m.0 m.1 c.order_of_keys.result m.4 t), tt)

pub returns-then-size-eq0-clause-orders : goal.returns-then-size-eq0-clause-orders
returns-then-size-eq0-clause-orders c = λ s x f.
    c.order_in-order.ensures x s.3 s.0 s.1 s.2 (c.collection_of-collection.ensures x f) s.5 (f.1 ∙ ap (λ f. Some f) s.4)

pub returns-else-size-eq0-clause-orders : goal.returns-else-size-eq0-clause-orders
returns-else-size-eq0-clause-orders c = λ s x f.
    c.order_in-order.ensures x s.3 s.0 s.1 s.2 (c.collection_of-collection.ensures x f) s.5 (f.1 ∙ ap (λ f. Some f) s.4)
