use Rattle.std.proofs.Common.{◌≡◌, ◌∙◌, inr, Some, map, length, string_bytes, refl, sym, ap, subst, arith}
use Rattle.borsh_json.specs.{Forms.{form_of, variant_bytes}, Found.{forms_of, names_of}, Ordered.{list, parts, AreNumbers}, Table.{primitive_kind}}
use Rattle.borsh_walks.specs.TupleNames.{tuple_name}
use Rattle.borsh_json.proofs.{FoundLaws.{not_true, sequence_same}, OrderedLaws.{finds_number, same_count}, UnorderedLaws.{IsOfStruct, struct_form, no_array, no_numbers, no_option, no_struct, no_tuple_name}}
use Rattle.borsh_json.proofs.order.ordered_as.Goals as goal

pub returns-in-Primitive-clause-order : goal.returns-in-Primitive-clause-order
returns-in-Primitive-clause-order c x h =
    let d = c.args.definitions.now in
    finds_number (forms_of d) (names_of d) x c.name-name.result.now c.in-Primitive.size c.number_as.result (c.name-name.ensures x h.0) (h.1 ∙ ap (λ d. Some (form_of d)) c.in-Primitive.is) c.number_as.ensures.order

pub returns-then-is_tuple_name-clause-order : goal.returns-then-is_tuple_name-clause-order
returns-then-is_tuple_name-clause-order c x h =
    let es = c.in-Tuple.elements in
    let ps = map (λ e. string_bytes e) es.items in
    let f = h.1 ∙ ap (λ d. Some (form_of d)) c.in-Tuple.is in
    let n = sym (c.name-name.ensures x h.0) ∙ c.is_tuple_name.ensures.0 c.if-is_tuple_name.true ∙ ap (λ es. tuple_name (map (λ e. string_bytes e) es)) c.as_slice.ensures.value in
    let l : c.len.result ≡ length ps = (let a = c.len.ensures in let b = es.ok.0 in let k = same_count es.items in omega arith) in
    (parts ps, (f, n), (ps, h.0, f, l, refl))

pub returns-in_ok-part-in-Enum-clause-order : goal.returns-in_ok-part-in-Enum-clause-order
returns-in_ok-part-in-Enum-clause-order c x h =
    let p = c.in_ok-part-in-Enum.ensures x h in
    (list 1 p.0, inr (refl, p.2), (p.0, p.1, refl))

pub returns-in-Primitive-clause-none : goal.returns-in-Primitive-clause-none
returns-in-Primitive-clause-none c x h r =
    let n = c.in-Primitive.size in
    no_numbers (forms_of c.args.definitions.now) x n (h.1 ∙ ap (λ d. Some (form_of d)) c.in-Primitive.is) (λ s a. c.number_as.ensures.none r s (subst (λ y. AreNumbers (primitive_kind y n) n s) (sym (c.name-name.ensures x h.0)) a))

pub returns-else-is_tuple_name-clause-none : goal.returns-else-is_tuple_name-clause-none
returns-else-is_tuple_name-clause-none c x h r =
    let ps = map (λ e. string_bytes e) c.in-Tuple.elements.items in
    let n = not_true c.is_tuple_name.result c.is_tuple_name.ensures c.if-is_tuple_name.false in
    no_tuple_name (forms_of c.args.definitions.now) x ps (h.1 ∙ ap (λ d. Some (form_of d)) c.in-Tuple.is) (λ t. n (c.name-name.ensures x h.0 ∙ t ∙ ap (λ es. tuple_name (map (λ e. string_bytes e) es)) (sym c.as_slice.ensures.value)))

pub returns-in_err-part-in-Enum-clause-none : goal.returns-in_err-part-in-Enum-clause-none
returns-in_err-part-in-Enum-clause-none c x h r =
    no_option (forms_of c.args.definitions.now) x c.in-Enum.tag_width (map variant_bytes c.in-Enum.variants.items) (h.1 ∙ ap (λ d. Some (form_of d)) c.in-Enum.is) (c.in_err-part-in-Enum.ensures x h)

pub returns-in-Struct-clause-none : goal.returns-in-Struct-clause-none
returns-in-Struct-clause-none c x h r = no_struct (forms_of c.args.definitions.now) x (form_of c.args.definition.now) h.1 (subst (λ d. IsOfStruct (form_of d)) (sym c.in-Struct.is) (struct_form c.in-Struct.fields))

pub returns-in-Sequence-clause-none : goal.returns-in-Sequence-clause-none
returns-in-Sequence-clause-none c x h r =
    let l = c.if-is_list.ensures in
    c.list_as.ensures.none l.0 l.1 (c.as_str.ensures.value ∙ sequence_same (sym l.1 ∙ ap form_of c.in-Sequence.is)) x h r

pub returns-in-Sequence-2-clause-none : goal.returns-in-Sequence-2-clause-none
returns-in-Sequence-2-clause-none c x h r =
    no_array (forms_of c.args.definitions.now) x _ _ _ _ (h.1 ∙ ap (λ d. Some (form_of d)) c.in-Sequence-2.is) (λ p q. c.if-is_list.ensures p (ap form_of c.in-Sequence-2.is ∙ q)) (c.array_as.ensures.none x h r)
