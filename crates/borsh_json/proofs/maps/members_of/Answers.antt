use Rattle.std.proofs.Common.{◌∙◌, List, ℕ, sym, ap, subst, is_some}
use Rattle.json.specs.Find.{as_object}
use Rattle.borsh_walks.proofs.Tables.{marks_none}
use Rattle.borsh_json.specs.{Frames.{IsText}, NoValue.{RepeatsKey}}
use Rattle.borsh_json.proofs.{MemberLaws.{found_start, found_more, found_all, passed_twice, text_cmp, text_one, not_each, none_of}, OpeningLaws.{denies_expected}}
use Rattle.borsh_json.proofs.maps.members_of.Goals as goal

pub returns-in_default : goal.returns-in_default
returns-in_default c j b = denies_expected _ (λ w. tt) c.expected.result c.expected.ensures (λ h. let f = ap as_object h.1 in let g = c.in_default.ensures j b in cc)

pub loop-key-init : goal.loop-key-init
loop-key-init c ms h = found_start ms c.in-Some.members c.new-found.result h c.new-found.ensures.empty (marks_none c.new-found.result c.new-found.ensures.empty)

pub loop-key-preserved : goal.loop-key-preserved
loop-key-preserved c ms h =
    let z = sym c.in_ok-old.ensures.old ∙ none_of c.in_ok-old.old c.is_some.result c.is_some.ensures c.if-is_some.false in
    found_more ms c.loop-key.members c.loop-key.found c.next.new.self c.insert.new.self c.in-Some-next.key c.in-Some-next.member c.in-Some-next.ensures.value c.in_ok-old.ensures.updates c.in_ok-old.ensures.entries z (c.loop-key.invariant ms h)

pub returns-then-is_some : goal.returns-then-is_some
returns-then-is_some c j b =
    let m = c.in-Some.ensures j b in
    let key = c.in-Some-next.key in
    let p = c.loop-key.invariant m.0 m.2 in
    let z = ap (λ o. is_some o) (sym c.in_ok-old.ensures.old) ∙ sym c.is_some.ensures ∙ c.if-is_some.true in
    let t = passed_twice IsText m.0 c.loop-key.members c.next.new.self c.loop-key.found.entries key.now c.in-Some-next.member c.in-Some-next.ensures.value text_cmp key (text_one key) z p.0 j m.1 in
    (subst (λ (n : List ℕ). RepeatsKey j n) (sym c.in_ok-from_str.ensures.ok) t, λ s. not_each j key.now t s.0 s.1 s.2)

pub returns : goal.returns
returns c j b =
    let m = c.in-Some.ensures j b in
    let p = found_all m.0 c.loop-key.members c.loop-key.found c.in_default-next.ensures.value (c.loop-key.invariant m.0 m.2) in
    (m.0, p.0, m.1, p.2, p.3, p.1)
