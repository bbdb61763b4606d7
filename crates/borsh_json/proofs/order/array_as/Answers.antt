use Rattle.std.proofs.{Common.{◌≡◌, ◌∙◌, ◌++◌, Some, string_bytes, refl, sym, ap, arith, codes, decimal}, lemmas.Bool.Decides.{nat_tests}}
use Rattle.borsh_json.specs.{Forms.{form_of, sequence}, Found.{forms_of}, Ordered.{array}}
use Rattle.borsh_json.proofs.order.array_as.Goals as goal

pub returns-then-is_array_name-clause-order : goal.returns-then-is_array_name-clause-order
returns-then-is_array_name-clause-order c x h =
    let s = c.in-Sequence-eq0-default-default in
    let n = s.range.start in
    let e = string_bytes s.elements in
    let z : s.length_width ≡ 0 = (let t = s.length_width-test in grind (arith, nat_tests)) in
    let f : forms_of c.args.definitions.now x ≡ Some (sequence 0 n n e) = h.1 ∙ ap (λ d. Some (form_of d)) s.is ∙ ap (λ w. Some (sequence w n s.range.end e)) z ∙ ap (λ m. Some (sequence 0 n m e)) (sym c.if-range.false) in
    let i = c.part.ensures x e (sequence 0 n n e) h.0 f refl in
    let t : x ≡ codes "[" ++ e ++ codes "; " ++ decimal n ++ codes "]" = sym (c.name.ensures x h.0) ∙ c.is_array_name.ensures.0 c.if-is_array_name.true ∙ ap (λ e. codes "[" ++ e ++ codes "; " ++ decimal n ++ codes "]") c.as_str.ensures.value in
    (array n e, (f, t), (e, i, refl))
