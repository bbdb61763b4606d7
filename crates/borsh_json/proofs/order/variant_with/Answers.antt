use Rattle.std.proofs.{Common.{◌≡◌, ◌∙◌, length, refl, ap, arith, string_bytes}, lemmas.List.{length-map}}
use Rattle.borsh_values.proofs.TagLaws.{unnamed, got}
use Rattle.borsh_json.proofs.VariantLaws.{variant_end, variant_here, variant_later}
use Rattle.borsh_json.proofs.order.variant_with.Goals as goal

pub loop-discriminant-init : goal.loop-discriminant-init
loop-discriminant-init c = (omega arith, refl)

pub loop-discriminant-preserved : goal.loop-discriminant-preserved
loop-discriminant-preserved c =
    let items = c.args.variants.now.items in
    let n = c.loop-discriminant.index in
    let f = c.in-Some.field-0.now in
    let v = got items _ n f c.deref.ensures.value c.in-Some.ensures.lookup.3.0 c.in-Some.ensures.lookup.1 in
    (let w = v.within in omega arith, c.loop-discriminant.invariant.1 ∙ variant_later c.args.tag.now (unnamed items) n f.0 (string_bytes f.2) v.listed (λ e. (let q = c.if-is_tag.ensures.1 e in cc)))

pub returns-then-is_tag : goal.returns-then-is_tag
returns-then-is_tag c =
    let items = c.args.variants.now.items in
    let n = c.loop-discriminant.index in
    let f = c.in-Some.field-0.now in
    let v = got items _ n f c.deref.ensures.value c.in-Some.ensures.lookup.3.0 c.in-Some.ensures.lookup.1 in
    (omega arith, f.0, string_bytes f.2, v.listed, c.loop-discriminant.invariant.1 ∙ variant_here c.args.tag.now (unnamed items) n f.0 (string_bytes f.2) v.listed (c.if-is_tag.ensures.0 refl))

pub returns : goal.returns
returns c low =
    let items = c.args.variants.now.items in
    let l = c.in_default.ensures.lookup in
    let d = c.deref.ensures.value in
    let k : length (unnamed items) ≡ length items = length-map items (λ v. (v.0, string_bytes v.2)) in
    c.loop-discriminant.invariant.1 ∙ variant_end c.args.tag.now (unnamed items) c.loop-discriminant.index (let h = l.3 in let e = ap (λ l. length l) d in omega (arith, k, h, e))
