use Rattle.std.proofs.Common.{◌∙◌, sym, ap, subst, Some, None, string_bytes}
use Rattle.borsh_json.specs.{Forms.{form_of, forms_in}, Places.{lengths_of}, Rows.{IsRowText, IsTextOf, IsValueText}}
use Rattle.borsh_json.proofs.{FoundLaws.{got, got_at, not_true, on_false, on_true}, RowsLaws.{any_lengths, primitive_value, text_value, count_value, variant_value, variant_there, nothing_value, if_same}, rows.value_of.Goals.{else-is_list-via-then-is_list+else-is_text, else-is_list-via-else-is_list}}
use Rattle.std.specs.Option.{option_copied}
use Rattle.borsh_json.proofs.rows.value_of.Goals as goal

pub returns-in-Primitive : goal.returns-in-Primitive
returns-in-Primitive c =
    let n = c.args.node.now in
    primitive_value (forms_in c.args.map.now) n.name.now n.bytes.now n.definition.now c.in-Primitive.size c.in-Primitive.is c.primitive_text.result (c.primitive_text.ensures n.name.now c.in-Primitive.size c.kind_of_primitive.ensures)

pub returns-then-is_text : goal.returns-then-is_text
returns-then-is_text c =
    let n = c.args.node.now in
    let F = forms_in c.args.map.now in
    let l = on_true _ c.is_list.result c.if-is_list.true c.is_list.ensures in
    let t = c.is_text.ensures.0 c.if-is_text.true in
    text_value F n.name.now n.bytes.now n.definition.now _ _ _ c.in-Sequence.is (subst (λ e. IsTextOf F n.name.now e) c.as_str.ensures.value t, ap (λ f. lengths_of f) l.1) c.elements_of.result.now c.elements_of.ensures c.quoted.result c.quoted.ensures

pub returns-else-is_list : goal.returns-else-is_list
returns-else-is_list c =
    let n = c.args.node.now in
    let F = forms_in c.args.map.now in
    let no_text : IsRowText F n.name.now (form_of n.definition.now) (string_bytes c.in-Sequence.elements) → ⊥ = λ t. elim c.else-is_list.branch [
      | else-is_list-via-then-is_list+else-is_text w ↦ not_true w.is_text.result w.is_text.ensures w.if-is_text.false (subst (λ e. IsTextOf F n.name.now e) (sym w.as_str.ensures.value) t.0)
      | else-is_list-via-else-is_list w ↦ (let a = any_lengths n.definition.now _ _ _ c.in-Sequence.is t.1 in on_false _ c.is_list.result w.if-is_list.false c.is_list.ensures a.0 a.1)
    ] in
    count_value F n.name.now n.bytes.now n.definition.now _ _ _ c.in-Sequence.is no_text c.count_of.result c.count_of.ensures c.counted_text.result c.counted_text.ensures

pub returns-in_default-variant_of : goal.returns-in_default-variant_of
returns-in_default-variant_of c =
    let n = c.args.node.now in
    variant_value (forms_in c.args.map.now) n.name.now n.bytes.now n.definition.now _ _ c.in-Enum.is None c.in_default-variant_of.ensures (string_bytes c.new.result) c.new.ensures.bytes

pub returns-in-Some-get : goal.returns-in-Some-get
returns-in-Some-get c =
    let n = c.args.node.now in
    let F = forms_in c.args.map.now in
    let u = c.in-Some-get.field-0.now in
    let g = got_at c.in-Enum.variants.items c.deref.result.now c.in-Some.index c.get.result c.in-Some-get.field-0 c.deref.ensures.value c.get.ensures.lookup.3 c.in-Some-get.is in
    let t = c.as_str-in-Some-get.result.now in
    if_same (λ t. IsValueText F n.name.now (form_of n.definition.now) n.bytes.now t) c.from_str.result t c.from_str.ensures.ok (variant_value F n.name.now n.bytes.now n.definition.now _ _ c.in-Enum.is (Some c.in-Some.index) c.in-Some.ensures t (u, g, c.as_str-in-Some-get.ensures.value))

pub returns-in-None : goal.returns-in-None
returns-in-None c =
    let n = c.args.node.now in
    let g = sym (got c.in-Enum.variants.items c.deref.result.now c.in-Some.index c.get.result c.deref.ensures.value c.get.ensures.lookup.3) ∙ ap (λ o. option_copied o) c.in-None.is in
    absurd (variant_there (forms_in c.args.map.now) n.name.now n.bytes.now n.definition.now _ _ c.in-Enum.is c.in-Some.index c.in-Some.ensures g)

pub returns-in_default : goal.returns-in_default
returns-in_default c =
    let n = c.args.node.now in
    nothing_value (forms_in c.args.map.now) n.name.now n.bytes.now n.definition.now c.in_default.not-Primitive c.in_default.not-Sequence c.in_default.not-Enum (string_bytes c.new-in_default.result) c.new-in_default.ensures.bytes
