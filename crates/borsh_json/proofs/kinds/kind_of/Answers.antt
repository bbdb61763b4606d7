use Rattle.std.proofs.{Common.{◌∙◌, Some, map, sym, ap, subst, bytes_eq}, lemmas.Simd.{map-map}}
use Rattle.std.specs.List.{IsDistinct}
use Rattle.borsh_walks.specs.Forms.{variant_bytes}
use Rattle.borsh_json.specs.{Forms.{form_of}, Found.{forms_of}, Table.{ComesTwice}}
use Rattle.borsh_json.proofs.{FoundLaws.{on_some, on_none}, NameLaws.{optional_kind, variants_kind, variants_repeated}}
use Rattle.borsh_json.proofs.kinds.kind_of.Goals as goal

pub returns-in-Some-clause-kind : goal.returns-in-Some-clause-kind
returns-in-Some-clause-kind c = λ x i e full.
    let F = forms_of c.args.definitions.now in
    let p = c.in-Some.ensures x (i, e) in
    let vs = map variant_bytes c.in-Enum.variants.items in
    (p.0, p.1, optional_kind F x full c.in-Enum.tag_width vs p.0 (e ∙ ap (λ d. Some (form_of d)) c.in-Enum.is) p.2)

pub returns-in-Some-2-clause-kind : goal.returns-in-Some-2-clause-kind
returns-in-Some-2-clause-kind c = λ x i e full.
    let d = c.args.definitions.now in
    let F = forms_of d in
    let n = c.in-None.ensures x (i, e) in
    let items = c.in-Enum.variants.items in
    let vs = map variant_bytes items in
    let q = on_some _ _ c.in_ok-name-in-None.field-0 c.in-Some-2.name c.in-Some-2.is c.in_ok-name-in-None.ensures in
    let t = map-map (λ v. v.1) variant_bytes items in
    variants_repeated F x full c.in-Enum.tag_width vs c.in-Some-2.name.now (e ∙ ap (λ d. Some (form_of d)) c.in-Enum.is) n
    (λ a. q.0 (subst (λ l. IsDistinct bytes_eq l) t a)) (subst (λ l. ComesTwice c.in-Some-2.name.now l) (sym t) q.1)

pub returns-in-None-2-clause-kind : goal.returns-in-None-2-clause-kind
returns-in-None-2-clause-kind c = λ x i e full.
    let F = forms_of c.args.definitions.now in
    let n = c.in-None.ensures x (i, e) in
    let vs = map variant_bytes c.in-Enum.variants.items in (
      variants_kind F x full c.in-Enum.tag_width vs (e ∙ ap (λ d. Some (form_of d)) c.in-Enum.is) n,
      on_none _ _ c.in_ok-name-in-None.field-0 c.in-None-2.is c.in_ok-name-in-None.ensures,
    )
