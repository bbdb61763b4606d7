use Rattle.std.proofs.{Common.{◌≡◌, ◌∙◌, ◌∷◌, [], Some, refl, length, map, string_bytes, sym, ap, subst, bytes_eq}, lemmas.List.{length-map}, lemmas.Simd.{map-map}}
use Rattle.std.specs.List.{IsDistinct}
use Rattle.borsh_walks.specs.Forms.{field_bytes}
use Rattle.borsh_json.specs.{Forms.{form_of_struct, unnamed}, Found.{forms_of}, Table.{ComesTwice}}
use Rattle.borsh_json.proofs.{FoundLaws.{one_part, on_some}, NameLaws.{fields_repeated, newtype_kind}}
use Rattle.borsh_json.proofs.kinds.kind_of_struct.Goals as goal

pub returns-in-Some-clause-kind : goal.returns-in-Some-clause-kind
returns-in-Some-clause-kind c = λ x h full.
    let d = c.args.definitions.now in
    let items = c.in-NamedFields.fields.items in
    let fs = map field_bytes items in
    let e = h.1 ∙ ap (λ f. Some (form_of_struct f)) c.in-NamedFields.is in
    let q = on_some _ _ c.in_ok-name-in-NamedFields.field-0 c.in-Some.name c.in-Some.is c.in_ok-name-in-NamedFields.ensures in
    let t = map-map (λ f. f.0) field_bytes items in
    fields_repeated (forms_of d) x full fs c.in-Some.name.now e (λ i. q.0 (subst (λ l. IsDistinct bytes_eq l) t i)) (subst (λ l. ComesTwice c.in-Some.name.now l) (sym t) q.1)

pub returns-then-len-eq1-clause-kind : goal.returns-then-len-eq1-clause-kind
returns-then-len-eq1-clause-kind c = λ x h full.
    let d = c.args.definitions.now in
    let ps = c.in-UnnamedFields.parts in
    let l : length (map (λ p. string_bytes p) ps.items) ≡ 1 = length-map ps.items (λ p. string_bytes p) ∙ sym (c.len.ensures ∙ ps.ok.0) ∙ c.if-len-eq1.true in
    let p = one_part (map (λ p. string_bytes p) ps.items) l in
    let e = h.1 ∙ ap (λ f. Some (form_of_struct f)) c.in-UnnamedFields.is ∙ ap (λ f. Some f) p.1 in
    (p.0, c.part.ensures x p.0 (unnamed (p.0 ∷ [])) h.0 e refl, newtype_kind (forms_of d) x full p.0 e)
