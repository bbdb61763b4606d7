use Rattle.std.proofs.{Common.{sym, subst, string_bytes}, lemmas.Result.{err_from_is_err_and}}
use Rattle.borsh_walks.specs.Container.{Shape}
use Rattle.borsh_values.specs.Nodes.{IsVariantOf}
use Rattle.borsh_json.specs.Found.{names_of}
use Rattle.borsh_json.proofs.ChoiceLaws.{there, is_chosen, its_part, name_said, name_written, variant_begun}
use Rattle.borsh_walks.proofs.Forms.{shape_is}
use Rattle.borsh_json.proofs.values.begin_variant.Goals as goal

pub returns-in_default : goal.returns-in_default
returns-in_default c w x parts i o k =
    let own = c.args.node.now.bytes.now in
    let d = c.args.node.now.definition.now in
    let v = subst (λ (s : Shape). IsVariantOf s own c.variant_of.result) (sym (shape_is d)) c.variant_of.ensures in
    absurd (there _ (names_of c.args.json.now) x _ own parts o w c.args.variants k c.variant_of.result v c.unwrap_or-index.result _ c.unwrap_or-index.ensures c.deref.result.now c.deref.ensures.value c.in_default.ensures.lookup.3)

pub returns-in_err-write_name : goal.returns-in_err-write_name
returns-in_err-write_name c w x parts i o k =
    let own = c.args.node.now.bytes.now in
    let d = c.args.node.now.definition.now in
    let v = subst (λ (s : Shape). IsVariantOf s own c.variant_of.result) (sym (shape_is d)) c.variant_of.ensures in
    let u = c.in-Some.field-0.now in
    let l = c.in-Some.ensures.lookup in
    let h = is_chosen _ (names_of c.args.json.now) x _ own parts o w c.args.variants k c.variant_of.result v c.unwrap_or-index.result _ c.unwrap_or-index.ensures u c.deref.result.now c.deref.ensures.value l.3.0 l.1 in
    let p = its_part _ (names_of c.args.json.now) x _ own parts o w c.args.variants k c.variant_of.result v c.unwrap_or-index.result _ c.unwrap_or-index.ensures u c.deref.result.now c.deref.ensures.value l.3.0 l.1 in
    let at = c.part-part.ensures x (string_bytes u.2) _ i o.0 p in
    let zero = c.is_zero_size.ensures (string_bytes u.2) at in
    let s = name_said _ (names_of c.args.json.now) x _ own parts o w c.args.variants k c.variant_of.result v u h c.as_str.result.now c.as_str.ensures.value (zero.0 c.if-is_zero_size.true) in
    let q = err_from_is_err_and c.from_residual.result c.from_residual.ensures.1 in
    rw (q.1, q.2) (c.in_err-write_name.ensures _ x own s)

pub returns-then-is_zero_size : goal.returns-then-is_zero_size
returns-then-is_zero_size c w x parts i o k =
    let own = c.args.node.now.bytes.now in
    let d = c.args.node.now.definition.now in
    let v = subst (λ (s : Shape). IsVariantOf s own c.variant_of.result) (sym (shape_is d)) c.variant_of.ensures in
    let u = c.in-Some.field-0.now in
    let l = c.in-Some.ensures.lookup in
    let h = is_chosen _ (names_of c.args.json.now) x _ own parts o w c.args.variants k c.variant_of.result v c.unwrap_or-index.result _ c.unwrap_or-index.ensures u c.deref.result.now c.deref.ensures.value l.3.0 l.1 in
    let p = its_part _ (names_of c.args.json.now) x _ own parts o w c.args.variants k c.variant_of.result v c.unwrap_or-index.result _ c.unwrap_or-index.ensures u c.deref.result.now c.deref.ensures.value l.3.0 l.1 in
    let at = c.part-part.ensures x (string_bytes u.2) _ i o.0 p in
    let zero = c.is_zero_size.ensures (string_bytes u.2) at in
    let z = zero.0 c.if-is_zero_size.true in
    let s = name_said _ (names_of c.args.json.now) x _ own parts o w c.args.variants k c.variant_of.result v u h c.as_str.result.now c.as_str.ensures.value z in
    name_written _ (names_of c.args.json.now) x _ own parts o w c.args.variants k c.variant_of.result v u h c.args.out.now c.write_name.new.out z (c.in_ok-write_name.ensures _ x own s)

pub returns : goal.returns
returns c w x parts i o k =
    let own = c.args.node.now.bytes.now in
    let d = c.args.node.now.definition.now in
    let v = subst (λ (s : Shape). IsVariantOf s own c.variant_of.result) (sym (shape_is d)) c.variant_of.ensures in
    let u = c.in-Some.field-0.now in
    let l = c.in-Some.ensures.lookup in
    let h = is_chosen _ (names_of c.args.json.now) x _ own parts o w c.args.variants k c.variant_of.result v c.unwrap_or-index.result _ c.unwrap_or-index.ensures u c.deref.result.now c.deref.ensures.value l.3.0 l.1 in
    let p = its_part _ (names_of c.args.json.now) x _ own parts o w c.args.variants k c.variant_of.result v c.unwrap_or-index.result _ c.unwrap_or-index.ensures u c.deref.result.now c.deref.ensures.value l.3.0 l.1 in
    let at = c.part-part.ensures x (string_bytes u.2) _ i o.0 p in
    let zero = c.is_zero_size.ensures (string_bytes u.2) at in
    variant_begun _ (names_of c.args.json.now) x _ own parts o w c.args.variants k c.variant_of.result v u h c.as_str-2.result c.part-part.result c.args.out.now c.begin.new.out c.begin.result c.as_str-2.ensures.value at (λ z. let e = zero.1 z in let t = c.if-is_zero_size.false in cc) c.begin.ensures
