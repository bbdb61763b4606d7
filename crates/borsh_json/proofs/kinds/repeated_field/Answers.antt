use Rattle.std.proofs.{Common.{◌≤◌, ◌∙◌, ◌++◌, ◌∷◌, [], List, ℕ, length, map, take, string_bytes, sym, ap, subst, arith}, lemmas.List.{map-append, take_all}}
use Rattle.borsh_json.specs.Found.{IsRepeated}
use Rattle.borsh_json.proofs.{FrameLaws.{length_map}, RepeatedLaws.{Text, taken_more}}
use Rattle.borsh_json.proofs.kinds.repeated_field.Goals as goal

pub loop-field-init : goal.loop-field-init
loop-field-init c = ap (λ l. map (λ (n : Text). n.now) l) c.in_ok-names.ensures.items

pub loop-field-preserved : goal.loop-field-preserved
loop-field-preserved c =
    let items = c.deref-field-items.result.now in
    let now : Text → List ℕ = λ n. n.now in
    ap (λ l. map now l) c.in_ok-push.ensures.items ∙ map-append now c.loop-field.names.items (c.as_str.result ∷ []) ∙ ap (λ l. l ++ c.as_str.result.now ∷ []) c.loop-field.invariant ∙ ap (λ x. take c.loop-field.field-index (map (λ f. string_bytes f.0) items) ++ x ∷ []) c.as_str.ensures.value ∙ sym (taken_more (λ f. string_bytes f.0) items c.loop-field.field-index c.loop-field-item.result (omega arith) c.loop-field-item.is)

pub returns : goal.returns
returns c =
    let items = c.deref-field-items.result.now in
    let all = map (λ f. string_bytes f.0) items in
    let l = length_map (λ f. string_bytes f.0) items in
    let h : length all ≤ c.loop-field.field-index = omega (arith, l) in
    subst (λ l. IsRepeated l c.repeated_name.result) (c.loop-field.invariant ∙ take_all c.loop-field.field-index all h ∙ ap (λ l. map (λ f. string_bytes f.0) l) c.deref-field-items.ensures.value) c.repeated_name.ensures
