use Rattle.std.proofs.Common.{◌∙◌, Some, ap, subst, refl, map, string_bytes}
use Rattle.borsh_walks.specs.{Definitions.{shape_of}, declared.definition.Definition.{Definition}}
use Rattle.borsh_values.specs.Nodes.{IsCountOf}
use Rattle.borsh_json.specs.{Forms.{form_of, sequence, shape_of_form}, Found.{forms_of, names_of}}
use Rattle.borsh_json.proofs.CopyLaws.{no_variant, product_copies, sequence_copies, struct_product, variant_copies, variant_there}
use Rattle.borsh_walks.proofs.Forms.{shape_is}
use Rattle.borsh_json.proofs.order.copies_behind.Goals as goal

pub returns-in-Tuple : goal.returns-in-Tuple
returns-in-Tuple c x h l =
    let d = c.args.json.now in
    product_copies (forms_of d) (names_of d) x (form_of c.args.definition.now) c.args.at c.args.own.now h.1 l _ h.0 (ap (λ d. shape_of_form (form_of d)) c.in-Tuple.is)

pub returns-in-Struct : goal.returns-in-Struct
returns-in-Struct c x h l =
    let d = c.args.json.now in
    let s = struct_product c.in-Struct.fields in
    product_copies (forms_of d) (names_of d) x (form_of c.args.definition.now) c.args.at c.args.own.now h.1 l s.0 h.0 (ap (λ d. shape_of_form (form_of d)) c.in-Struct.is ∙ s.1)

pub returns-in-Some : goal.returns-in-Some
returns-in-Some c x h l =
    let d = c.args.json.now in
    let s = c.in-Sequence in
    let e = string_bytes s.elements in
    let w = s.length_width in
    let lo = s.length_range.start in
    let hi = s.length_range.end in
    let own = c.args.own.now in
    let i = c.part.ensures x e (sequence w lo hi e) h.0 (h.1 ∙ ap (λ d. Some (form_of d)) s.is) refl in
    let n = subst (λ (d : Definition). IsCountOf (shape_of d) own (Some c.in-Some.count)) s.is c.in-Some.ensures in
    sequence_copies (forms_of d) (names_of d) x (form_of c.args.definition.now) c.part.result own h.1 l w lo hi e c.in-Some.count (ap (λ d. shape_of_form (form_of d)) s.is) n i

pub returns-in-Some-variant_with : goal.returns-in-Some-variant_with
returns-in-Some-variant_with c x h l =
    let d = c.args.json.now in
    let g = c.args.definition.now in
    let w = c.in-Enum.tag_width in
    let vs = map (λ v. (v.0, string_bytes v.2)) c.in-Enum.variants.items in
    let own = c.args.own.now in
    let t = c.in-Some-variant_with.ensures in
    let f = shape_is g ∙ ap shape_of c.in-Enum.is in
    let at = c.part-in-Some-variant_with.result in
    let i = c.part-in-Some-variant_with.ensures x t.2 (form_of g) h.0 h.1 (variant_there (forms_of d) (names_of d) x (form_of g) at own h.1 l w vs c.in-Some-variant_with.index t.1 t.2 f t.3) in
    variant_copies (forms_of d) (names_of d) x (form_of g) at own h.1 l w vs t.2 f t.0 t.4 i

pub returns-in-None-variant_with : goal.returns-in-None-variant_with
returns-in-None-variant_with c x h l =
    let d = c.args.json.now in
    let g = c.args.definition.now in
    let vs = map (λ v. (v.0, string_bytes v.2)) c.in-Enum.variants.items in
    no_variant (forms_of d) (names_of d) x (form_of g) c.args.at c.args.own.now h.1 l c.in-Enum.tag_width vs (shape_is g ∙ ap shape_of c.in-Enum.is) c.in-None-variant_with.ensures
