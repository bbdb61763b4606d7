use Rattle.std.proofs.Common.{◌≡◌, ◌∙◌, Some, refl, sym, ap, subst, codes}
use Rattle.borsh_json.specs.{Forms.{sequence}, Table.{HasKind, utf8, byte_list}, Places.{lengths_of}, Found.{forms_of}}
use Rattle.borsh_json.proofs.{FoundLaws.{not_true}, NameLaws.{text_is, text_kind, bytes_kind}}
use Rattle.borsh_json.proofs.kinds.kind_of_bytes.Goals as goal

pub returns-then-is_text-clause-kind : goal.returns-then-is_text-clause-kind
returns-then-is_text-clause-kind c = λ w lo hi e q i b x h full.
    let F = forms_of c.args.definitions.now in
    let f : F x ≡ Some (sequence w lo hi e) = h.1 ∙ ap (λ f. Some f) q in
    let t = (c.is_text.ensures x h).0 c.if-is_text.true in
    let g : Some (sequence 4 0 4294967295 (codes "u8")) ≡ Some (sequence w lo hi e) = sym t.1 ∙ f in
    let l : sequence w lo hi e ≡ sequence 4 0 4294967295 (codes "u8") = cc in
    subst (λ f. HasKind F x (utf8 (lengths_of f))) (sym q) (text_kind F x full w lo hi e f (t.0, ap (λ f. lengths_of f) l) b)

pub returns-clause-kind : goal.returns-clause-kind
returns-clause-kind c = λ w lo hi e q i b x h full.
    let F = forms_of c.args.definitions.now in
    let f : F x ≡ Some (sequence w lo hi e) = h.1 ∙ ap (λ f. Some f) q in
    (e, i, subst (λ f. HasKind F x (byte_list (lengths_of f) e)) (sym q) (bytes_kind F x full w lo hi e f (λ s. not_true c.is_text.result (c.is_text.ensures x h) c.if-is_text.false (text_is F x w lo hi e f s b)) b))

pub returns-then-is_text-clause-orders : goal.returns-then-is_text-clause-orders
returns-then-is_text-clause-orders c = λ s x f. (tt, tt)

pub returns-clause-orders : goal.returns-clause-orders
returns-clause-orders c = λ s x f.
    let o = c.order_in-order.ensures x s.3 s.0 s.1 s.2 (c.collection_of-collection.ensures x f) s.5 (f.1 ∙ ap (λ f. Some f) s.4) in
    ((refl, o.0), o.1)
