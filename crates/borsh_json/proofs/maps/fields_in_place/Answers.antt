use Rattle.std.proofs.{Common.{◌≡◌, ◌≤◌, ◌∙◌, List, ℕ, length, map, take, true, string_bytes, sym, ap, subst, arith, take_all}, lemmas.Slice.Eq.{bytes_eq-Decides}}
use Rattle.borsh_json.proofs.{FieldLaws.{ArePast, past_start, past_more, past_all}, FrameLaws.{length_map}, RepeatedLaws.{taken_more}}
use Rattle.borsh_json.proofs.maps.fields_in_place.Goals as goal

pub loop-field-init : goal.loop-field-init
loop-field-init c ms h = past_start ms c.in_ok-members.members h

pub loop-field-preserved : goal.loop-field-preserved
loop-field-preserved c ms h =
    let items = c.deref-field-items.result.now in
    let i = c.loop-field.field-index in
    let t = c.if-not-is_next.false in
    let e : c.eq-is_next.result ≡ true = cc in
    let same = (bytes_eq-Decides _ _).0 (sym c.eq-is_next.ensures ∙ e) ∙ c.as_str.ensures.value in
    past_more ms c.loop-field.members c.next.new.self (take i (map (λ f. string_bytes f.0) items)) _ c.in-Some.key.now (string_bytes c.loop-field-item.result.0) c.in-Some.field-0-1 c.in-Some.ensures.value same (taken_more (λ f. string_bytes f.0) items i c.loop-field-item.result (omega arith) c.loop-field-item.is) (c.loop-field.invariant ms h)

pub returns-in-None : goal.returns-in-None
returns-in-None c j b =
    let items = c.deref-field-items.result.now in
    let all = map (λ f. string_bytes f.0) items in
    let o = c.in_ok-found.ensures j b in
    let m = c.in_ok-members.ensures j b in
    let l = length_map (λ f. string_bytes f.0) items in
    let h : length all ≤ c.loop-field.field-index = omega (arith, l) in
    let names = take_all c.loop-field.field-index all h ∙ ap (λ l. map (λ f. string_bytes f.0) l) c.deref-field-items.ensures.value in
    past_all j m.0 o.0 c.loop-field.members c.in_ok-found.found _ o.1 o.2 m.1 c.in-None.ensures.value (subst (λ (n : List (List ℕ)). ArePast n m.0 c.loop-field.members) names (c.loop-field.invariant m.0 m.2))
