use Rattle.std.proofs.Common.{◌≡◌, ℕ, suc, List, ◌∷◌, length, reverse, Some, None, refl, sym, ◌∙◌, ap, subst, arith, ◌⊎◌, true, false, Bool}
use Rattle.std.specs.Prelude.{Option, MatchOption, is_some}
use Rattle.std.specs.BTreeMap.{btree_map_len, get_by_text}
use Rattle.std.proofs.lemmas.List.{length-set}
use Rattle.borsh_walks.specs.Container.{IsIn, IsDefined, is_missing, missing_definition}
use Rattle.borsh_walks.specs.Counts.{counts_of, definitions_of, add_to}
use Rattle.borsh_walks.specs.Definitions.{definitions_in, shape_of}
use Rattle.borsh_walks.specs.declared.counted.Question.TheVariants.{Rules, Zero}
use Rattle.borsh_walks.specs.ZeroAnswer.{ZeroTable}
use Rattle.borsh_walks.specs.Tables.{IsMarked}
use Rattle.borsh_walks.specs.Places.{filled, mark_by, place_in}
use Rattle.borsh_walks.specs.RulesAnswer.{RuleAnswer, ElementMarked, ElementReaches, rule_of}
use Rattle.borsh_walks.specs.declared.stack.Spot.{Spot}
use Rattle.borsh_walks.proofs.RulesLaws.{rules_fault}
use Rattle.borsh_walks.proofs.Names.{found_shape, found_none, also_known}
use Rattle.borsh_walks.proofs.PlaceLaws.{filled_more, marked_at, place_within, unplaced, updated_place}
use Rattle.borsh_walks.proofs.Tables.{Updated, still, more_names}
use Rattle.borsh_walks.proofs.Spots.{last_first}
use Rattle.borsh_walks.proofs.Counting.{on_err}
use Rattle.borsh_walks.proofs.RulesSteps.{both_more, rules_visit, zeros_known}
use Rattle.borsh_walks.proofs.rules.visit.Goals as goal

pub returns-in_default-clause-visited : goal.returns-in_default-clause-visited
returns-in_default-clause-visited c = λ root s r n.
    rules_fault (definitions_of c.args.counted.now) root c.args.name.now missing_definition c.error_of.result c.error_of.ensures r (is_missing (found_none c.args.places.now.map c.args.counted.now.map c.args.name.now c.requires.places.0 c.in_default.ensures.definition))

pub returns-in_default-clause-counts : goal.returns-in_default-clause-counts
returns-in_default-clause-counts c = λ root s r n base h.
    let same = ap (λ i. add_to Rules i (add_to Zero (btree_map_len c.args.table.now) base)) s.len ∙ ap (λ i. add_to Rules (length s.names) (add_to Zero i base)) s.zero.len in
    (s.names, s.zero.names, (s.marks.distinct, λ x a. (let k = (s.marks.looked x a).1 in (k.0, k.2))), (s.zero.marks.distinct, λ x a. (let k = s.zero.marks.looked x a in (s.zeros_reached x k.0, k.1))), h ∙ same, tt)

pub broken_rule-requires : goal.broken_rule-requires
broken_rule-requires c = subst (λ m. ZeroTable (definitions_in m.now) c.args.table.now) (sym c.visit.ensures.same.0) c.requires.table

pub returns-in_err-broken-clause-counts : goal.returns-in_err-broken-clause-counts
returns-in_err-broken-clause-counts c = λ root s r n base h.
    let C = definitions_of c.args.counted.now in
    let e = found_shape c.args.places.now.map c.args.counted.now.map c.args.name.now c.in-Some.definition.now c.requires.places.0 c.in-Some.ensures.definition in
    let more = more_names (definitions_of c.args.counted.now) (λ x k. k.2) s.marks n e in
    let known = also_known (r, (_, e)) (λ x a. (let k = (s.marks.looked x a).1 in (k.0, k.2))) in
    let z = c.in_err-broken.ensures.counts in
    let zeros = zeros_known C root c.args.table.now c.args.name.now (shape_of c.in-Some.definition.now) r e s.zeros_reached (subst (λ m. (x : List ℕ) → IsIn x z.names → IsDefined (definitions_in m.now) x × (IsMarked c.args.table.now x ⊎ ElementReaches (definitions_in m.now) (shape_of c.in-Some.definition.now) x)) c.visit.ensures.same.0 z.known) in
    let k = z.counts (add_to Rules (suc (filled c.args.seen.now.items)) base) (both_more (filled c.args.seen.now.items) (btree_map_len c.args.table.now) (counts_of c.args.counted.now) (counts_of c.visit.new.self) base h c.visit.ensures.counts) in
    let same = ap (λ i. add_to Rules (suc i) (add_to Zero (length z.names) base)) s.len in
    (c.args.name.now ∷ s.names, z.names, (more.0, known), (z.once, zeros), k ∙ same, on_err _ c.from_residual.result c.from_residual.ensures.0)

pub returns-in-Some-2-clause-visited : goal.returns-in-Some-2-clause-visited
returns-in-Some-2-clause-visited c = λ root s r n.
    let C = definitions_of c.args.counted.now in
    let e = found_shape c.args.places.now.map c.args.counted.now.map c.args.name.now c.in-Some.definition.now c.requires.places.0 c.in-Some.ensures.definition in
    let a = subst (λ m. RuleAnswer (definitions_in m.now) (shape_of c.in-Some.definition.now) c.in_ok-broken.field-0) c.visit.ensures.same.0 c.in_ok-broken.ensures.answer in
    let b = subst (λ o. RuleAnswer C (shape_of c.in-Some.definition.now) o) c.in-Some-2.is a in
    rules_fault C root c.args.name.now (rule_of c.in-Some-2.broken) c.error_of-in-Some-2.result c.error_of-in-Some-2.ensures r (b c.args.name.now e)

pub returns-in-Some-2-clause-counts : goal.returns-in-Some-2-clause-counts
returns-in-Some-2-clause-counts c = λ root s r n base h.
    let C = definitions_of c.args.counted.now in
    let e = found_shape c.args.places.now.map c.args.counted.now.map c.args.name.now c.in-Some.definition.now c.requires.places.0 c.in-Some.ensures.definition in
    let more = more_names (definitions_of c.args.counted.now) (λ x k. k.2) s.marks n e in
    let known = also_known (r, (_, e)) (λ x a. (let k = (s.marks.looked x a).1 in (k.0, k.2))) in
    let z = c.in_ok-broken.ensures.counts in
    let zeros = zeros_known C root c.args.table.now c.args.name.now (shape_of c.in-Some.definition.now) r e s.zeros_reached (subst (λ m. (x : List ℕ) → IsIn x z.names → IsDefined (definitions_in m.now) x × (IsMarked c.args.table.now x ⊎ ElementReaches (definitions_in m.now) (shape_of c.in-Some.definition.now) x)) c.visit.ensures.same.0 z.known) in
    let k = z.counts (add_to Rules (suc (filled c.args.seen.now.items)) base) (both_more (filled c.args.seen.now.items) (btree_map_len c.args.table.now) (counts_of c.args.counted.now) (counts_of c.visit.new.self) base h c.visit.ensures.counts) in
    let same = ap (λ i. add_to Rules (suc i) (add_to Zero (length z.names) base)) s.len in
    (c.args.name.now ∷ s.names, z.names, (more.0, known), (z.once, zeros), k ∙ same, tt)

was_none : {X : Type 0} (o : Option X) (b : Bool) → b ≡ is_some o → b ≡ false → o ≡ None
was_none None b e f = refl
was_none (Some x) b e f = cc

was_some : {X : Type 0} (o : Option X) (b : Bool) → b ≡ is_some o → b ≡ true → o ≡ None → ⊥
was_some None b e f h = cc
was_some (Some x) b e f h = cc

pub returns-then-is_some-clause-visited : goal.returns-then-is_some-clause-visited
returns-then-is_some-clause-visited c = λ root s r n.
    let E = c.args.counted.now.map.now.entries in
    let p = ap (λ m. place_in m.now.entries c.args.name.now) (sym c.requires.places.0) ∙ sym c.in-Some.ensures.place in
    absurd (was_some c.mark_at.result c.is_some.result c.is_some.ensures c.if-is_some.true (sym (marked_at E c.args.seen.now.items c.args.name.now c.in-Some.place c.mark_at.result p c.mark_at.ensures) ∙ n))

pub returns-then-is_some-clause-counts : goal.returns-then-is_some-clause-counts
returns-then-is_some-clause-counts c = λ root s r n.
    let E = c.args.counted.now.map.now.entries in
    let p = ap (λ m. place_in m.now.entries c.args.name.now) (sym c.requires.places.0) ∙ sym c.in-Some.ensures.place in
    absurd (was_some c.mark_at.result c.is_some.result c.is_some.ensures c.if-is_some.true (sym (marked_at E c.args.seen.now.items c.args.name.now c.in-Some.place c.mark_at.result p c.mark_at.ensures) ∙ n))

pub returns-then-is_some-clause-again : goal.returns-then-is_some-clause-again
returns-then-is_some-clause-again c = λ f. record { seen = refl; waiting = refl; zeros = refl; counts = refl; ok = refl }

pub mark_at-requires : goal.mark_at-requires
mark_at-requires c =
    let E = c.args.counted.now.map.now.entries in
    let p = ap (λ m. place_in m.now.entries c.args.name.now) (sym c.requires.places.0) ∙ sym c.in-Some.ensures.place in
    omega (arith, place_within E c.args.name.now c.in-Some.place p, c.requires.seen)

pub returns-clause-seen : goal.returns-clause-seen
returns-clause-seen c = ap (λ l. length l) c.set_mark.ensures ∙ length-set c.args.seen.now.items c.in-Some.place (Some _)

pub returns-in_err-push-clause-counts : goal.returns-in_err-push-clause-counts
returns-in_err-push-clause-counts c = λ root s r n base h.
    let C = definitions_of c.args.counted.now in
    let e = found_shape c.args.places.now.map c.args.counted.now.map c.args.name.now c.in-Some.definition.now c.requires.places.0 c.in-Some.ensures.definition in
    let more = more_names (definitions_of c.args.counted.now) (λ x k. k.2) s.marks n e in
    let known = also_known (r, (_, e)) (λ x a. (let k = (s.marks.looked x a).1 in (k.0, k.2))) in
    let z = c.in_ok-broken.ensures.counts in
    let zeros = zeros_known C root c.args.table.now c.args.name.now (shape_of c.in-Some.definition.now) r e s.zeros_reached (subst (λ m. (x : List ℕ) → IsIn x z.names → IsDefined (definitions_in m.now) x × (IsMarked c.args.table.now x ⊎ ElementReaches (definitions_in m.now) (shape_of c.in-Some.definition.now) x)) c.visit.ensures.same.0 z.known) in
    let k = z.counts (add_to Rules (suc (filled c.args.seen.now.items)) base) (both_more (filled c.args.seen.now.items) (btree_map_len c.args.table.now) (counts_of c.args.counted.now) (counts_of c.visit.new.self) base h c.visit.ensures.counts) in
    let same = ap (λ i. add_to Rules (suc i) (add_to Zero (length z.names) base)) s.len in
    (c.args.name.now ∷ s.names, z.names, (more.0, known), (z.once, zeros), k ∙ same, on_err _ c.from_residual-in_err-push.result c.from_residual-in_err-push.ensures.0)

none_from : {X : Type 0} (o : Option X) → ((x : X) → o ≡ Some x → ⊥) → o ≡ None
none_from None f = refl
none_from (Some x) f = absurd (f x refl)

pub returns-clause-visited : goal.returns-clause-visited
returns-clause-visited c = λ root s r n.
    let C = definitions_of c.args.counted.now in
    let d = shape_of c.in-Some.definition.now in
    let none = none_from c.in_ok-broken.field-0 c.in_default-2.not-Some in
    let e = found_shape c.args.places.now.map c.args.counted.now.map c.args.name.now c.in-Some.definition.now c.requires.places.0 c.in-Some.ensures.definition in
    let a = subst (λ m. RuleAnswer (definitions_in m.now) d c.in_ok-broken.field-0) c.visit.ensures.same.0 c.in_ok-broken.ensures.answer in
    let keeps = subst (λ o. RuleAnswer C d o) none a in
    let t = subst (λ m. ZeroTable (definitions_in m.now) c.broken_rule.new.table) c.visit.ensures.same.0 c.in_ok-broken.ensures.table in
    let k = subst (λ m. MatchOption c.in_ok-broken.field-0 (ElementMarked (definitions_in m.now) d c.args.table.now c.broken_rule.new.table) (λ _. Unit {0})) c.visit.ensures.same.0 c.in_ok-broken.ensures.marked in
    let marks = subst (λ o. MatchOption o (ElementMarked C d c.args.table.now c.broken_rule.new.table) (λ _. Unit {0})) none k in
    let E = c.args.counted.now.map.now.entries in
    let place = c.in-Some.place in
    let p : place_in E c.args.name.now ≡ Some place = ap (λ m. place_in m.now.entries c.args.name.now) (sym c.requires.places.0) ∙ sym c.in-Some.ensures.place in
    let u = subst (λ l. Updated (mark_by E c.args.seen.now.items) (mark_by E l) c.args.name.now _) (sym c.set_mark.ensures) (updated_place E c.args.seen.now.items c.args.name.now place _ p (omega (arith, place_within E c.args.name.now place p, c.requires.seen))) in
    let unseen = c.mark_at.ensures ∙ ap Some (was_none c.mark_at.result c.is_some.result c.is_some.ensures c.if-is_some.false) in
    let len : filled c.set_mark.new.marks.items ≡ suc (filled c.args.seen.now.items) = ap (λ l. filled l) c.set_mark.ensures ∙ filled_more c.args.seen.now.items place _ unseen in
    let g : Spot = record { name = c.args.name; definition = c.in-Some.definition; next = 0 } in
    let z = c.in_ok-broken.ensures.counts in
    let zeros = zeros_known C root c.args.table.now c.args.name.now d r e s.zeros_reached (subst (λ m. (x : List ℕ) → IsIn x z.names → IsDefined (definitions_in m.now) x × (IsMarked c.args.table.now x ⊎ ElementReaches (definitions_in m.now) d x)) c.visit.ensures.same.0 z.known) in
    let items = last_first c.args.stack.now.items c.push.new.self.items c.at.result c.in_ok-push.ensures.items ∙ ap (λ f. f ∷ reverse c.args.stack.now.items) c.at.ensures in (
      rules_visit C root g s r n e (keeps c.args.name.now e) t (λ x m. (zeros x (z.all.1 x m)).0) marks u len refl items,
      (still u, (λ h. let b = u.here in cc), omega (arith, len)),
      (g, items, refl, sym (c.in-Some.ensures.definition ∙ ap (λ m. get_by_text m.now c.args.name.now) c.requires.places.0)),
    )

pub returns-clause-counts : goal.returns-clause-counts
returns-clause-counts c = λ root s r n base h.
    let C = definitions_of c.args.counted.now in
    let e = found_shape c.args.places.now.map c.args.counted.now.map c.args.name.now c.in-Some.definition.now c.requires.places.0 c.in-Some.ensures.definition in
    let more = more_names (definitions_of c.args.counted.now) (λ x k. k.2) s.marks n e in
    let known = also_known (r, (_, e)) (λ x a. (let k = (s.marks.looked x a).1 in (k.0, k.2))) in
    let z = c.in_ok-broken.ensures.counts in
    let zeros = zeros_known C root c.args.table.now c.args.name.now (shape_of c.in-Some.definition.now) r e s.zeros_reached (subst (λ m. (x : List ℕ) → IsIn x z.names → IsDefined (definitions_in m.now) x × (IsMarked c.args.table.now x ⊎ ElementReaches (definitions_in m.now) (shape_of c.in-Some.definition.now) x)) c.visit.ensures.same.0 z.known) in
    let k = z.counts (add_to Rules (suc (filled c.args.seen.now.items)) base) (both_more (filled c.args.seen.now.items) (btree_map_len c.args.table.now) (counts_of c.args.counted.now) (counts_of c.visit.new.self) base h c.visit.ensures.counts) in
    let unseen = c.mark_at.ensures ∙ ap Some (was_none c.mark_at.result c.is_some.result c.is_some.ensures c.if-is_some.false) in
    let len : filled c.set_mark.new.marks.items ≡ suc (filled c.args.seen.now.items) = ap (λ l. filled l) c.set_mark.ensures ∙ filled_more c.args.seen.now.items c.in-Some.place _ unseen in
    let same = ap (λ i. add_to Rules (suc i) (add_to Zero (length z.names) base)) s.len in
    (c.args.name.now ∷ s.names, z.names, (more.0, known), (z.once, zeros), k ∙ same, (ap suc (sym s.len) ∙ sym len, z.all.0))

pub returns-in_default-clause-again : goal.returns-in_default-clause-again
returns-in_default-clause-again c = λ f.
    let p = ap (λ m. place_in m.now.entries c.args.name.now) (sym c.requires.places.0) ∙ sym c.in_default.ensures.place in
    absurd (f (unplaced c.args.counted.now.map.now.entries c.args.seen.now.items c.args.name.now p))

pub returns-in_err-broken-clause-again : goal.returns-in_err-broken-clause-again
returns-in_err-broken-clause-again c = λ f.
    let E = c.args.counted.now.map.now.entries in
    let p = ap (λ m. place_in m.now.entries c.args.name.now) (sym c.requires.places.0) ∙ sym c.in-Some.ensures.place in
    absurd (f (marked_at E c.args.seen.now.items c.args.name.now c.in-Some.place c.mark_at.result p c.mark_at.ensures ∙ was_none c.mark_at.result c.is_some.result c.is_some.ensures c.if-is_some.false))

pub returns-in-Some-2-clause-again : goal.returns-in-Some-2-clause-again
returns-in-Some-2-clause-again c = λ f.
    let E = c.args.counted.now.map.now.entries in
    let p = ap (λ m. place_in m.now.entries c.args.name.now) (sym c.requires.places.0) ∙ sym c.in-Some.ensures.place in
    absurd (f (marked_at E c.args.seen.now.items c.args.name.now c.in-Some.place c.mark_at.result p c.mark_at.ensures ∙ was_none c.mark_at.result c.is_some.result c.is_some.ensures c.if-is_some.false))

pub returns-in_err-push-clause-again : goal.returns-in_err-push-clause-again
returns-in_err-push-clause-again c = λ f.
    let E = c.args.counted.now.map.now.entries in
    let p = ap (λ m. place_in m.now.entries c.args.name.now) (sym c.requires.places.0) ∙ sym c.in-Some.ensures.place in
    absurd (f (marked_at E c.args.seen.now.items c.args.name.now c.in-Some.place c.mark_at.result p c.mark_at.ensures ∙ was_none c.mark_at.result c.is_some.result c.is_some.ensures c.if-is_some.false))

pub returns-clause-again : goal.returns-clause-again
returns-clause-again c = λ f.
    let E = c.args.counted.now.map.now.entries in
    let p = ap (λ m. place_in m.now.entries c.args.name.now) (sym c.requires.places.0) ∙ sym c.in-Some.ensures.place in
    absurd (f (marked_at E c.args.seen.now.items c.args.name.now c.in-Some.place c.mark_at.result p c.mark_at.ensures ∙ was_none c.mark_at.result c.is_some.result c.is_some.ensures c.if-is_some.false))
