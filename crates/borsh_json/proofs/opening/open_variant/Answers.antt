use Rattle.std.proofs.Common.{inl, inr, ℕ, List, Option, Some, map, sym, ◌∙◌, ap, subst, refl, string_bytes, ℤ, String, Global, bytes_eq}
use Rattle.std.specs.List.{IsDistinct}
use Rattle.json.specs.{Json.{object, no_members, member}, Token.{Token}}
use Rattle.borsh_walks.specs.Container.{tag}
use Rattle.borsh_plan.specs.Plan.{map_of, names_of as plan_names}
use Rattle.borsh_json.specs.{declared.position.Parts.TheVariants.{Variant}, Forms.{forms_in, choice, variant_bytes}, Frames.{NamesVariant}, Table.{variants}, NoValue.{NamesNoVariant}}
use Rattle.borsh_json.proofs.{OpeningLaws.{opened_leaf, only_found, refuses_expected}, PartsLaws.{third_names, no_variant_json, unknown_variant, wants_value, wants_none, form_choice, variant_part}}
use Rattle.borsh_json.proofs.opening.open_variant.Goals as goal

distinct : (xs : List (ℤ × String Global × String Global)) → IsDistinct bytes_eq (map (λ v. string_bytes v.1) xs) → IsDistinct bytes_eq (map (λ (v : ℤ × List ℕ × List ℕ). v.1) (map variant_bytes xs))
distinct xs d = subst (λ (l : List (List ℕ)). IsDistinct bytes_eq l) (sym (third_names (λ (v : ℤ × String Global × String Global). v.0) (λ v. string_bytes v.1) (λ v. string_bytes v.2) xs)) d

pub returns-in_default : goal.returns-in_default
returns-in_default c x j i d h b =
    let F = forms_in (map_of c.args.json.now.plan.now) in
    let ns = plan_names c.args.json.now.plan.now in
    let vs : List (ℤ × List ℕ × List ℕ) = map variant_bytes c.args.variants.now.items in
    let n = c.in_default.ensures j b in
    refuses_expected F ns x j c.expected.result c.expected.ensures (no_variant_json F ns x j c.args.width vs h n.0 n.1)

pub returns-in_default-variant_named : goal.returns-in_default-variant_named
returns-in_default-variant_named c x j i d h b =
    let F = forms_in (map_of c.args.json.now.plan.now) in
    let ns = plan_names c.args.json.now.plan.now in
    let vs : List (ℤ × List ℕ × List ℕ) = map variant_bytes c.args.variants.now.items in
    let u = unknown_variant F ns x j c.args.width vs h c.in-Some.name.now (distinct c.args.variants.now.items d) c.in-Some.value (c.in-Some.ensures j b) c.in_default-variant_named.ensures in
    (inl (subst (λ (v : List ℕ). NamesNoVariant F x j v) (sym c.in_ok-name.ensures.ok) u.0), inl u.1)

pub returns-then-is_empty : goal.returns-then-is_empty
returns-then-is_empty c x j i d h b =
    let F = forms_in (map_of c.args.json.now.plan.now) in
    let ns = plan_names c.args.json.now.plan.now in
    let w = c.args.width in
    let vs : List (ℤ × List ℕ × List ℕ) = map variant_bytes c.args.variants.now.items in
    let v = c.in-Some.name.now in
    let u = distinct c.args.variants.now.items d in
    let f = c.in-Some-variant_named.ensures in
    let at = c.part-part.ensures x f.1 (choice w vs) i (form_choice F x w vs h) (variant_part vs c.in-Some-variant_named.index c.in-Some-variant_named.discriminant.now v f.1 f.2) in
    let zero = c.is_zero_size-is_empty.ensures f.1 at in
    let n = subst (λ (o : Option (List Token)). NamesVariant j (Some (v, o))) c.in-None.is (c.in-Some.ensures j b) in
    opened_leaf F ns x j (variants w vs) c.args.out.now.items c.put_variant.new.out.items (tag w c.in-Some-variant_named.discriminant.now) h c.in_ok-put_variant.ensures (u, c.in-Some-variant_named.discriminant.now, v, f.1, f.3, refl, inl (n, zero.0 c.if-is_empty.true, refl))

pub returns-else-is_empty : goal.returns-else-is_empty
returns-else-is_empty c x j i d h b =
    let F = forms_in (map_of c.args.json.now.plan.now) in
    let ns = plan_names c.args.json.now.plan.now in
    let w = c.args.width in
    let vs : List (ℤ × List ℕ × List ℕ) = map variant_bytes c.args.variants.now.items in
    let v = c.in-Some.name.now in
    let u = distinct c.args.variants.now.items d in
    let f = c.in-Some-variant_named.ensures in
    let at = c.part-part.ensures x f.1 (choice w vs) i (form_choice F x w vs h) (variant_part vs c.in-Some-variant_named.index c.in-Some-variant_named.discriminant.now v f.1 f.2) in
    let zero = c.is_zero_size-is_empty.ensures f.1 at in
    let n = subst (λ (o : Option (List Token)). NamesVariant j (Some (v, o))) c.in-None.is (c.in-Some.ensures j b) in
    refuses_expected F ns x j c.expected-else-is_empty.result c.expected-else-is_empty.ensures (wants_value F ns x j w vs h v u n c.in-Some-variant_named.discriminant.now f.1 f.3 (λ z. let e = zero.1 z in let t = c.if-is_empty.false in cc))

pub returns-then-is_empty-2 : goal.returns-then-is_empty-2
returns-then-is_empty-2 c x j i d h b =
    let F = forms_in (map_of c.args.json.now.plan.now) in
    let ns = plan_names c.args.json.now.plan.now in
    let w = c.args.width in
    let vs : List (ℤ × List ℕ × List ℕ) = map variant_bytes c.args.variants.now.items in
    let v = c.in-Some.name.now in
    let u = distinct c.args.variants.now.items d in
    let f = c.in-Some-variant_named.ensures in
    let at = c.part-part.ensures x f.1 (choice w vs) i (form_choice F x w vs h) (variant_part vs c.in-Some-variant_named.index c.in-Some-variant_named.discriminant.now v f.1 f.2) in
    let zero = c.is_zero_size-is_empty.ensures f.1 at in
    let n = subst (λ (o : Option (List Token)). NamesVariant j (Some (v, o))) c.in-Some-value.is (c.in-Some.ensures j b) in
    refuses_expected F ns x j c.expected-then-is_empty-2.result c.expected-then-is_empty-2.ensures (wants_none F ns x j w vs h v u n.0 n.1 c.in-Some-variant_named.discriminant.now f.1 f.3 (zero.0 c.if-is_empty-2.true))

pub returns-else-is_empty-2 : goal.returns-else-is_empty-2
returns-else-is_empty-2 c x j i d h b =
    let F = forms_in (map_of c.args.json.now.plan.now) in
    let ns = plan_names c.args.json.now.plan.now in
    let w = c.args.width in
    let vs : List (ℤ × List ℕ × List ℕ) = map variant_bytes c.args.variants.now.items in
    let v = c.in-Some.name.now in
    let u = distinct c.args.variants.now.items d in
    let f = c.in-Some-variant_named.ensures in
    let at = c.part-part.ensures x f.1 (choice w vs) i (form_choice F x w vs h) (variant_part vs c.in-Some-variant_named.index c.in-Some-variant_named.discriminant.now v f.1 f.2) in
    let zero = c.is_zero_size-is_empty.ensures f.1 at in
    let n = subst (λ (o : Option (List Token)). NamesVariant j (Some (v, o))) c.in-Some-value.is (c.in-Some.ensures j b) in
    (tag w c.in-Some-variant_named.discriminant.now, c.in_ok-put_variant.ensures, only_found F ns x j (variants w vs) (tag w c.in-Some-variant_named.discriminant.now) (Variant c.in-Some-variant_named.variant c.part-part.result) f.1 n.0 c.in-Some-value.value c.only.result c.only.ensures (λ m. (f.1, refl, λ ws e. (f.1, at, e))) (λ m. m) (w, vs, n.0, refl, n.1 ∙ ap (λ v. object (member v n.0 no_members)) (sym f.0)) h n.2 (u, c.in-Some-variant_named.discriminant.now, v, f.1, f.3, refl, inr (n.0, n.1, (λ z. let e = zero.1 z in let t = c.if-is_empty-2.false in cc), refl)))
