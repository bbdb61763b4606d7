use Rattle.std.proofs.Common.{◌≡◌, ◌∙◌, ◌-◌, ◌+◌, ◌<◌, ◌∷◌, [], suc, ℕ, Some, refl, sym, ap, subst, arith}
use Rattle.borsh_json.specs.{Forms.{form_of, unnamed}, Table.{MayBeNull, too_far, without_bytes, an_option, in_newtype}, Found.{forms_of}}
use Rattle.borsh_json.proofs.{FoundLaws.{on_true, on_false, not_true}, NameLaws.{null_missing, null_other, null_inner}}
use Rattle.borsh_json.proofs.kinds.may_be_null.Goals as goal

left : (i : ℕ) → i < 128 → 128 - i ≡ suc (128 - (i + 1))
left i h = omega arith

pub returns-then-is_zero_size : goal.returns-then-is_zero_size
returns-then-is_zero_size c = λ x0 h.
    let F = forms_of c.args.definitions.now in
    let v = c.loop.invariant x0 h in
    let z = (c.is_zero_size.ensures v.0 v.1).0 c.if-is_zero_size.true in
    v.2 (subst (λ n. MayBeNull F n v.0) (sym (left c.loop.counter c.loop-test.true)) (without_bytes z))

pub returns-in_default : goal.returns-in_default
returns-in_default c = λ x0 h m.
    let F = forms_of c.args.definitions.now in
    let v = c.loop.invariant x0 h in
    null_missing F (128 - (c.loop.counter + 1)) v.0 (sym (c.in_default.ensures v.0 v.1)) (subst (λ n. MayBeNull F n v.0) (left c.loop.counter c.loop-test.true) (v.3 m))

pub returns-in-Some-option_part : goal.returns-in-Some-option_part
returns-in-Some-option_part c = λ x0 h.
    let F = forms_of c.args.definitions.now in
    let v = c.loop.invariant x0 h in
    let e = c.in-Some.ensures v.0 v.1 in
    let o = c.in-Some-option_part.ensures v.0 (v.1, sym e) in
    v.2 (subst (λ n. MayBeNull F n v.0) (sym (left c.loop.counter c.loop-test.true)) (an_option o.0 o.2))

pub returns-then-not-is_newtype : goal.returns-then-not-is_newtype
returns-then-not-is_newtype c = λ x0 h m.
    let F = forms_of c.args.definitions.now in
    let v = c.loop.invariant x0 h in
    let e = c.in-Some.ensures v.0 v.1 in
    let full = not_true c.is_zero_size.result (c.is_zero_size.ensures v.0 v.1) c.if-is_zero_size.false in
    let o = c.in_default-option_part.ensures in
    let t = on_false _ c.is_newtype.result c.if-not-is_newtype.true c.is_newtype.ensures in
    null_other F (128 - (c.loop.counter + 1)) v.0 (form_of c.in-Some.definition.now) (sym e) full (o v.0 (v.1, sym e)) t (subst (λ n. MayBeNull F n v.0) (left c.loop.counter c.loop-test.true) (v.3 m))

pub loop-preserved : goal.loop-preserved
loop-preserved c = λ x0 h.
    let F = forms_of c.args.definitions.now in
    let v = c.loop.invariant x0 h in
    let e = c.in-Some.ensures v.0 v.1 in
    let full = not_true c.is_zero_size.result (c.is_zero_size.ensures v.0 v.1) c.if-is_zero_size.false in
    let t = on_true _ c.is_newtype.result c.if-not-is_newtype.false c.is_newtype.ensures in
    let f : F v.0 ≡ Some (unnamed (t.0 ∷ [])) = sym e ∙ ap (λ f. Some f) t.1 in
    let i = c.part-at.ensures v.0 t.0 (unnamed (t.0 ∷ [])) v.1 f refl in (
      t.0,
      i,
      (λ m. v.2 (subst (λ n. MayBeNull F n v.0) (sym (left c.loop.counter c.loop-test.true)) (in_newtype t.0 f m))),
      (λ m. null_inner F (128 - (c.loop.counter + 1)) v.0 t.0 f full (c.in_default-option_part.ensures v.0 (v.1, sym e)) (subst (λ n. MayBeNull F n v.0) (left c.loop.counter c.loop-test.true) (v.3 m))),
    )

pub returns : goal.returns
returns c = λ x0 h.
    let F = forms_of c.args.definitions.now in
    let v = c.loop.invariant x0 h in
    let q : 128 - c.loop.counter ≡ 0 = (let t = c.loop-test.false in omega arith) in
    v.2 (subst (λ n. MayBeNull F n v.0) (sym q) too_far)
