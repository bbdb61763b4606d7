use Rattle.std.proofs.Common.{◌∙◌, inl, inr, List, ℕ, sym, ap, subst, is_some, nat_cmp}
use Rattle.json.specs.Find.{as_object}
use Rattle.borsh_json.specs.{Frames.{IsRank}, NoValue.{RepeatsKey}}
use Rattle.borsh_json.proofs.{MemberLaws.{passed_start, passed_here, passed_more, passed_twice, passed_all, not_each, none_of}, NumberLaws.{rank_one}, OpeningLaws.{shows_expected}}
use Rattle.borsh_json.proofs.maps.ranks_of.Goals as goal

pub returns-in_default : goal.returns-in_default
returns-in_default c small j b = shows_expected _ (λ w. tt) c.expected.result c.expected.ensures (inl (λ h. let f = ap as_object h.1 in let g = c.in_default.ensures j b in cc))

pub loop-key-init : goal.loop-key-init
loop-key-init c small ms h = passed_start (IsRank c.args.number) ms c.in-Some.members c.new-found.result.entries h c.new-found.ensures.empty

pub loop-key-preserved : goal.loop-key-preserved
loop-key-preserved c small ms h =
    let z = sym c.in_ok-old.ensures.old ∙ none_of c.in_ok-old.old c.is_some.result c.is_some.ensures c.if-is_some.false in
    passed_more (IsRank c.args.number) ms c.loop-key.members c.next.new.self c.loop-key.found.entries c.in-Some-next.key.now c.in-Some-next.member c.in-Some-next.ensures.value nat_cmp c.in-Some-rank_of.rank c.insert.new.self.entries c.in_ok-old.ensures.entries (c.in-Some-rank_of.ensures small) z (c.loop-key.invariant small ms h)

pub returns-then-is_some : goal.returns-then-is_some
returns-then-is_some c small j b =
    let n = c.args.number in
    let m = c.in-Some.ensures j b in
    let key = c.in-Some-next.key.now in
    let rank = c.in-Some-rank_of.rank in
    let z = ap (λ o. is_some o) (sym c.in_ok-old.ensures.old) ∙ sym c.is_some.ensures ∙ c.if-is_some.true in
    let t = passed_twice (IsRank n) m.0 c.loop-key.members c.next.new.self c.loop-key.found.entries key c.in-Some-next.member c.in-Some-next.ensures.value nat_cmp rank (λ a t e r. rank_one n.size n.is_signed n.is_non_zero key t rank a small (c.in-Some-rank_of.ensures small) r e) z (c.loop-key.invariant small m.0 m.2) j m.1 in
    (subst (λ (n : List ℕ). RepeatsKey j n) (sym c.in_ok-from_str.ensures.ok) t, inl (λ s. not_each j key t s.0 s.1 s.2))

pub returns-in_default-rank_of : goal.returns-in_default-rank_of
returns-in_default-rank_of c small j b =
    let m = c.in-Some.ensures j b in
    let key = c.in-Some-next.key.now in
    let p = c.loop-key.invariant small m.0 m.2 in
    let u = passed_here (IsRank c.args.number) m.0 c.loop-key.members c.next.new.self c.loop-key.found.entries key c.in-Some-next.member c.in-Some-next.ensures.value p in
    (tt, inr (m.0, p.passed, (key, u.0), u.1, m.1, u.2, c.in_default-rank_of.ensures small))

pub returns : goal.returns
returns c small j b =
    let m = c.in-Some.ensures j b in
    let p = c.loop-key.invariant small m.0 m.2 in
    let a = passed_all (IsRank c.args.number) m.0 c.loop-key.members c.loop-key.found.entries c.in_default-next.ensures.value p in
    (m.0, p.es, m.1, a.1, p.keyed)
