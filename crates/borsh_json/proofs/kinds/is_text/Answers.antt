use Rattle.std.proofs.{Common.{◌≡◌, ◌∙◌, Some, refl, sym, ap, subst, codes, bytes_eq}, lemmas.Slice.Eq.{bytes_eq-Decides}}
use Rattle.borsh_json.specs.{Forms.{primitive, sequence, IsByte, IsList}, Found.{forms_of}}
use Rattle.borsh_json.proofs.{FoundLaws.{list_element, on_true}, NameLaws.{ne_false}}
use Rattle.borsh_json.proofs.kinds.is_text.Goals as goal

pub returns : goal.returns
returns c = λ x h.
    let d = c.args.definitions.now in
    let F = forms_of d in
    let l = on_true _ c.is_list.result c.if-not-is_list.false c.is_list.ensures in
    let f : F x ≡ Some (sequence 4 0 4294967295 l.0) = h.1 ∙ ap (λ f. Some f) l.1 in
    let i = c.part.ensures x l.0 (sequence 4 0 4294967295 l.0) h.0 f refl in
    let b = c.is_byte.ensures l.0 i in
    let t : x ≡ codes "String" = sym (c.name.ensures x h.0) ∙ (bytes_eq-Decides c.name.result.now (codes "String")).0 (ne_false c.ne.result (bytes_eq c.name.result.now (codes "String")) c.ne.ensures c.if-ne.false) in (
      (λ r. (let p = b.0 r in (t, subst (λ e. IsList F x e) p.0 f, (refl, subst (λ e. F e ≡ Some (primitive 1)) p.0 p.1)))),
      (λ a. b.1 (subst (λ e. IsByte F e) (list_element F x l.0 4 0 4294967295 f (codes "u8") a.1) a.2)),
    )
