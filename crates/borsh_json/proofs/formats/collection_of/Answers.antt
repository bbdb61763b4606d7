use Rattle.std.proofs.Common.{◌≡◌, ◌∙◌, ◌∷◌, [], Some, refl, string_bytes, sym, ap, subst}
use Rattle.borsh_plan.specs.Plan.{names_of as plan_names}
use Rattle.borsh_json.specs.{Forms.{form_of, sequence, tuple}, Found.{forms_of, IsMapName, IsSetName}}
use Rattle.borsh_json.proofs.FoundLaws.{list_element, no_map, not_true, sequence_same, on_true, on_false}
use Rattle.borsh_json.proofs.formats.collection_of.Goals as goal

pub returns-then-is_entry : goal.returns-then-is_entry
returns-then-is_entry c = λ x h.
    let d = c.args.definitions.now in
    let ns = plan_names d.plan.now in
    let l = on_true _ c.is_list.result c.if-not-is_list.false c.is_list.ensures in
    let f : forms_of d x ≡ Some (sequence 4 0 4294967295 l.0) = h.1 ∙ ap (λ f. Some f) l.1 in
    let i = c.part-pair.ensures x l.0 (sequence 4 0 4294967295 l.0) h.0 f refl in
    let t = on_true _ c.is_entry.result c.if-is_entry.true c.is_entry.ensures in
    let g : forms_of d l.0 ≡ Some (tuple (t.0 ∷ t.1 ∷ [])) = sym (c.get.ensures l.0 i) ∙ t.2 in
    let a = c.part.ensures l.0 t.0 (tuple (t.0 ∷ t.1 ∷ [])) i g refl in
    let b = c.part-then-is_entry.ensures l.0 t.1 (tuple (t.0 ∷ t.1 ∷ [])) i g refl in
    (t.0, t.1, a, b, (l.0, f, g, subst (λ n. IsMapName n t.0 t.1) (c.name-2.ensures x h.0) t.3))

pub returns-else-is_entry : goal.returns-else-is_entry
returns-else-is_entry c = λ x h.
    let d = c.args.definitions.now in
    let l = on_true _ c.is_list.result c.if-not-is_list.false c.is_list.ensures in
    let f : forms_of d x ≡ Some (sequence 4 0 4294967295 l.0) = h.1 ∙ ap (λ f. Some f) l.1 in
    let i = c.part-pair.ensures x l.0 (sequence 4 0 4294967295 l.0) h.0 f refl in
    let t = on_false _ c.is_entry.result c.if-is_entry.false c.is_entry.ensures in
    let e : string_bytes c.in-Sequence.elements ≡ l.0 = sym (sequence_same (sym (ap (λ d. form_of d) c.in-Sequence.is) ∙ l.1)) in (
      (λ g s. not_true c.is_set_name.result c.is_set_name.ensures c.if-is_set_name.false
          (subst (λ n. IsSetName n c.as_str.result.now) (sym (c.name.ensures x h.0))
          (subst (λ k. IsSetName x k) (list_element (forms_of d) x l.0 4 0 4294967295 f g s.0 ∙ sym e ∙ sym c.as_str.ensures.value) s.1))),
      no_map (forms_of d) x l.0 4 0 4294967295 f _ (c.get.ensures l.0 i) (λ k v q n. t k v q (subst (λ n. IsMapName n k v) (sym (c.name-2.ensures x h.0)) n)),
    )
