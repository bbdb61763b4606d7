use Rattle.std.proofs.{Common.{◌≤◌, ◌∙◌, ◌++◌, ◌∷◌, [], List, ℕ, length, map, take, string_bytes, sym, ap, subst, arith}, lemmas.List.{map-append, take_all}}
use Rattle.borsh_json.specs.Found.{IsRepeated}
use Rattle.borsh_json.proofs.{FrameLaws.{length_map}, RepeatedLaws.{Text, taken_more}}
use Rattle.borsh_json.proofs.kinds.repeated_variant.Goals as goal

pub loop-variant-init : goal.loop-variant-init
loop-variant-init c = ap (λ l. map (λ (n : Text). n.now) l) c.in_ok-names.ensures.items

pub loop-variant-preserved : goal.loop-variant-preserved
loop-variant-preserved c =
    let items = c.deref-variant-items.result.now in
    let now : Text → List ℕ = λ n. n.now in
    ap (λ l. map now l) c.in_ok-push.ensures.items ∙ map-append now c.loop-variant.names.items (c.as_str.result ∷ []) ∙ ap (λ l. l ++ c.as_str.result.now ∷ []) c.loop-variant.invariant ∙ ap (λ x. take c.loop-variant.variant-index (map (λ f. string_bytes f.1) items) ++ x ∷ []) c.as_str.ensures.value ∙ sym (taken_more (λ f. string_bytes f.1) items c.loop-variant.variant-index c.loop-variant-item.result (omega arith) c.loop-variant-item.is)

pub returns : goal.returns
returns c =
    let items = c.deref-variant-items.result.now in
    let all = map (λ f. string_bytes f.1) items in
    let l = length_map (λ f. string_bytes f.1) items in
    let h : length all ≤ c.loop-variant.variant-index = omega (arith, l) in
    subst (λ l. IsRepeated l c.repeated_name.result) (c.loop-variant.invariant ∙ take_all c.loop-variant.variant-index all h ∙ ap (λ l. map (λ f. string_bytes f.1) l) c.deref-variant-items.ensures.value) c.repeated_name.ensures
