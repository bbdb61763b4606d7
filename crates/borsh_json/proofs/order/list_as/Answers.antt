use Rattle.std.proofs.Common.{◌≡◌, ◌∙◌, inl, inr, Some, refl, sym, ap, subst}
use Rattle.borsh_json.specs.{Forms.{sequence}, Found.{forms_of}, Ordered.{list, IsSequenceName, IsTreeMapName}}
use Rattle.borsh_json.proofs.{FoundLaws.{not_true, on_false, on_true}, UnorderedLaws.{no_list_name}}
use Rattle.borsh_json.proofs.order.list_as.Goals as goal

pub returns-then-is_list_name-clause-order : goal.returns-then-is_list_name-clause-order
returns-then-is_list_name-clause-order c e f g x h =
    let s : forms_of c.args.definitions.now x ≡ Some (sequence 4 0 4294967295 e) = h.1 ∙ ap (λ f. Some f) f in
    let i = c.part-part.ensures x e (sequence 4 0 4294967295 e) h.0 s refl in
    let n = subst (λ y. IsSequenceName y e) (c.name-name.ensures x h.0) (subst (λ e. IsSequenceName c.name-name.result.now e) g (c.is_list_name.ensures.0 c.if-is_list_name.true)) in
    (list 4 e, inl (refl, (s, inl n)), (e, i, refl))

pub returns-then-is_tree_map-clause-order : goal.returns-then-is_tree_map-clause-order
returns-then-is_tree_map-clause-order c e f g x h =
    let s : forms_of c.args.definitions.now x ≡ Some (sequence 4 0 4294967295 e) = h.1 ∙ ap (λ f. Some f) f in
    let i = c.part-part.ensures x e (sequence 4 0 4294967295 e) h.0 s refl in
    let m = on_true _ c.is_tree_map.result c.if-is_tree_map.true c.is_tree_map.ensures in
    (list 4 e, inl (refl, (s, inr (m.0, m.1, sym (c.get.ensures e i) ∙ m.2, subst (λ y. IsTreeMapName y m.0 m.1) (c.name-name.ensures x h.0) m.3))), (e, i, refl))

pub returns-clause-none : goal.returns-clause-none
returns-clause-none c e f g x h r =
    let F = forms_of c.args.definitions.now in
    let s : F x ≡ Some (sequence 4 0 4294967295 e) = h.1 ∙ ap (λ f. Some f) f in
    let i = c.part-part.ensures x e (sequence 4 0 4294967295 e) h.0 s refl in
    let y = sym (c.name-name.ensures x h.0) in
    let t = not_true c.is_text.result (c.is_text.ensures x h) c.if-is_text.false in
    let n = not_true c.is_list_name.result c.is_list_name.ensures c.if-is_list_name.false in
    let m = on_false _ c.is_tree_map.result c.if-is_tree_map.false c.is_tree_map.ensures in
    no_list_name F x e s t (λ q. n (subst (λ e. IsSequenceName c.name-name.result.now e) (sym g) (subst (λ y. IsSequenceName y e) y q))) (λ k v q l. m k v (c.get.ensures e i ∙ q) (subst (λ y. IsTreeMapName y k v) y l))
