use Rattle.std.proofs.Common.{◌≡◌, ℕ, suc, ◌≤◌, List, [], ◌∷◌, length, reverse, add-one, Some, None, refl, sym, ◌∙◌, ap, subst, arith, inl, inr}
use Rattle.std.specs.Prelude.{Option, Result, Ok, Err, IsErr, IsErrAnd, MatchResult, option_map}
use Rattle.std.specs.BTreeMap.{btree_map_len, get_by_text}
use Rattle.std.proofs.lemmas.List.{length-replicate, nil_from_length}
use Rattle.borsh_walks.specs.Container.{IsIn, Reached, stays, onward, references, IsValid}
use Rattle.borsh_walks.specs.Counts.{counts_of, definitions_of, add_to}
use Rattle.borsh_walks.specs.Definitions.{definitions_in, shape_of}
use Rattle.borsh_walks.specs.Places.{filled, mark_by}
use Rattle.borsh_walks.specs.Tables.{mark_of}
use Rattle.borsh_walks.specs.RulesAnswer.{RulesFault}
use Rattle.borsh_walks.specs.RulesState.{AreReached, AreZeroSizeReached, HasSeen, IsSeen, WalkState}
use Rattle.borsh_walks.specs.declared.counted.Question.TheVariants.{Rules, Zero}
use Rattle.borsh_walks.specs.declared.counted.Expansions.{Expansions}
use Rattle.borsh_walks.specs.declared.rules.Seen.{Seen}
use Rattle.borsh_walks.proofs.RulesLaws.{checked_referenced}
use Rattle.borsh_walks.proofs.Names.{distinct_none, names_within}
use Rattle.borsh_walks.proofs.Tables.{has_mark, mark_cases, few_names, few_more}
use Rattle.borsh_walks.proofs.PlaceLaws.{none_filled, none_marked}
use Rattle.borsh_walks.proofs.Spots.{moved, last_first}
use Rattle.borsh_walks.proofs.Measure.{rests, rests_moved, left_moved, left_popped, left_pushed}
use Rattle.borsh_walks.proofs.RulesSteps.{rules_start, rules_pop, rules_take, rules_seen, rules_all, rules_reached, empty_table}
use Rattle.borsh_walks.proofs.rules.walk_rules.Goals as goal

err_is : {E : Type 0} (P : Unit {0} → Type 0) (Q : E → Type 0) (r : Result (Unit {0}) E) (e : E) → IsErr r → IsErrAnd r (λ x. x ≡ e) → Q e → MatchResult r P Q
err_is P Q (Ok u) e h k q = cc
err_is P Q (Err x) e h k q = subst Q (sym k) q

both_none : (j k : ℕ) (e : Expansions) → j ≡ 0 → k ≡ 0 → e ≡ add_to Rules j (add_to Zero k e)
both_none j k e p q = subst (λ i. e ≡ add_to Rules i (add_to Zero k e)) (sym p) (subst (λ i. e ≡ add_to Rules 0 (add_to Zero i e)) (sym q) refl)

both_at : (j k a b : ℕ) (c e : Expansions) → c ≡ add_to Rules j (add_to Zero k e) → j ≡ a → k ≡ b → c ≡ add_to Rules a (add_to Zero b e)
both_at j k a b c e h p q = h ∙ ap (λ i. add_to Rules i (add_to Zero k e)) p ∙ ap (λ i. add_to Rules a (add_to Zero i e)) q

pub returns-in_err-places-clause-work : goal.returns-in_err-places-clause-work
returns-in_err-places-clause-work c = record { names = []; zeros = []; reached = (distinct_none, λ x a. elim a [ ]); zeros_reached = (distinct_none, λ x a. elim a [ ]); few = omega arith; few_zeros = omega arith; counts = refl }

pub returns-in_err-seen-clause-work : goal.returns-in_err-seen-clause-work
returns-in_err-seen-clause-work c = record { names = []; zeros = []; reached = (distinct_none, λ x a. elim a [ ]); zeros_reached = (distinct_none, λ x a. elim a [ ]); few = omega arith; few_zeros = omega arith; counts = refl }

pub visit-requires : goal.visit-requires
visit-requires c = record { table = empty_table (definitions_of c.args.counted.now) c.new-table.result c.new-table.ensures.empty; places = c.in_ok-places.ensures; seen = ap (λ l. length l) c.in_ok-seen.ensures ∙ length-replicate {A = Option Seen} c.len.result None ∙ c.len.ensures.len }

pub loop-spot-init : goal.loop-spot-init
loop-spot-init c =
    let C = definitions_of c.args.counted.now in
    let root = c.args.root.now in
    let m = c.args.counted.now.map.now in
    let few = ap (λ l. filled l) c.in_ok-seen.ensures ∙ none_filled Seen c.len.result in
    let none : (x : List ℕ) → mark_by m.entries c.in_ok-seen.seen.items x ≡ None = λ x. ap (λ l. mark_by m.entries l x) c.in_ok-seen.ensures ∙ none_marked m.entries c.len.result x in
    let s = rules_start C root c.new-table.result (reverse c.new-stack.result.items) none few c.new-table.ensures.empty (ap (λ l. reverse l) c.new-stack.ensures.items) in
    let n = none root in
    let v = c.in_ok-visit.ensures.visited root s stays n in
    let k = c.in_ok-visit.ensures.counts root s stays n (counts_of c.args.counted.now) (both_none (filled c.in_ok-seen.seen.items) (btree_map_len c.new-table.result) (counts_of c.args.counted.now) few c.new-table.ensures.len) in
    record { state = v.0; root_seen = v.1.1; looks = both_at (length k.0) (length k.1) _ _ (counts_of c.visit.new.counted) (counts_of c.args.counted.now) k.4 k.5.0 k.5.1; same = (c.in_ok-visit.ensures.same.0, c.in_ok-visit.ensures.same.1); len = c.in_ok-visit.ensures.seen ∙ ap (λ l. length l) c.in_ok-seen.ensures ∙ length-replicate {A = Option Seen} c.len.result None ∙ c.len.ensures.len }

pub returns-in_err-visit-clause-answer : goal.returns-in_err-visit-clause-answer
returns-in_err-visit-clause-answer c =
    let C = definitions_of c.args.counted.now in
    let root = c.args.root.now in
    let m = c.args.counted.now.map.now in
    let few = ap (λ l. filled l) c.in_ok-seen.ensures ∙ none_filled Seen c.len.result in
    let none : (x : List ℕ) → mark_by m.entries c.in_ok-seen.seen.items x ≡ None = λ x. ap (λ l. mark_by m.entries l x) c.in_ok-seen.ensures ∙ none_marked m.entries c.len.result x in
    let s = rules_start C root c.new-table.result (reverse c.new-stack.result.items) none few c.new-table.ensures.empty (ap (λ l. reverse l) c.new-stack.ensures.items) in
    let n = none root in
    err_is (λ x. IsValid C root) (RulesFault C root) c.from_residual-in_err-visit.result c.in_err-visit.field-0.0 c.from_residual-in_err-visit.ensures.0 c.from_residual-in_err-visit.ensures.1 (c.in_err-visit.ensures.visited root s stays n)

pub returns-in_err-visit-clause-work : goal.returns-in_err-visit-clause-work
returns-in_err-visit-clause-work c =
    let C = definitions_of c.args.counted.now in
    let root = c.args.root.now in
    let m = c.args.counted.now.map.now in
    let few = ap (λ l. filled l) c.in_ok-seen.ensures ∙ none_filled Seen c.len.result in
    let none : (x : List ℕ) → mark_by m.entries c.in_ok-seen.seen.items x ≡ None = λ x. ap (λ l. mark_by m.entries l x) c.in_ok-seen.ensures ∙ none_marked m.entries c.len.result x in
    let s = rules_start C root c.new-table.result (reverse c.new-stack.result.items) none few c.new-table.ensures.empty (ap (λ l. reverse l) c.new-stack.ensures.items) in
    let n = none root in
    let k = c.in_err-visit.ensures.counts root s stays n (counts_of c.args.counted.now) (both_none (filled c.in_ok-seen.seen.items) (btree_map_len c.new-table.result) (counts_of c.args.counted.now) few c.new-table.ensures.len) in
    record { names = k.0; zeros = k.1; reached = k.2; zeros_reached = k.3; few = names_within c.args.counted.now.map.now k.0 k.2.0 (λ x a. (k.2.1 x a).1); few_zeros = names_within c.args.counted.now.map.now k.1 k.3.0 (λ x a. (k.3.1 x a).1); counts = k.4 }

pub loop-spot-smaller-in_default-referenced_part : goal.loop-spot-smaller-in_default-referenced_part
loop-spot-smaller-in_default-referenced_part c =
    let i = c.loop-spot.invariant in
    let C = definitions_of c.args.counted.now in
    let items = last_first c.pop.new.self.items c.loop-spot.stack.items c.in-Some.spot c.in-Some.ensures.items in
    let s = subst (λ l. WalkState c.args.counted.now.map.now c.args.root.now [] c.loop-spot.seen.items l c.loop-spot.table) items i.state in
    left_popped references c.loop-spot.counted.map.now (filled c.loop-spot.seen.items) (filled c.loop-spot.seen.items) c.in-Some.spot (reverse c.pop.new.self.items) (reverse c.loop-spot.stack.items) refl items s.spots.0.2

pub loop-spot-preserved-in_default-referenced_part : goal.loop-spot-preserved-in_default-referenced_part
loop-spot-preserved-in_default-referenced_part c =
    let i = c.loop-spot.invariant in
    let C = definitions_of c.args.counted.now in
    let items = last_first c.pop.new.self.items c.loop-spot.stack.items c.in-Some.spot c.in-Some.ensures.items in
    let s = subst (λ l. WalkState c.args.counted.now.map.now c.args.root.now [] c.loop-spot.seen.items l c.loop-spot.table) items i.state in
    record { state = rules_pop C c.args.root.now (reverse c.pop.new.self.items) c.in-Some.spot s (sym c.in_default-referenced_part.ensures.part); root_seen = i.root_seen; looks = i.looks; same = (i.same.0, i.same.1); len = i.len }

pub loop-spot-smaller : goal.loop-spot-smaller
loop-spot-smaller c =
    let i = c.loop-spot.invariant in
    let C = definitions_of c.args.counted.now in
    let root = c.args.root.now in
    let p = c.in-Some-referenced_part.part.now in
    let items = last_first c.pop.new.self.items c.loop-spot.stack.items c.in-Some.spot c.in-Some.ensures.items in
    let s = subst (λ l. WalkState c.args.counted.now.map.now root [] c.loop-spot.seen.items l c.loop-spot.table) items i.state in
    let back = last_first c.pop.new.self.items c.push.new.self.items (moved c.in-Some.spot) c.in_ok-push.ensures.items in
    let t = rules_take C root (reverse c.pop.new.self.items) (reverse c.push.new.self.items) c.in-Some.spot p s (sym c.in-Some-referenced_part.ensures.part) back in
    let r = rules_reached C root (reverse c.pop.new.self.items) c.in-Some.spot p s (sym c.in-Some-referenced_part.ensures.part) in
    let t' = subst (λ m. WalkState m.now root (p ∷ []) c.loop-spot.seen.items (reverse c.push.new.self.items) c.loop-spot.table) (sym i.same.0) t in
    let r' = subst (λ m. Reached (definitions_in m.now) root p) (sym i.same.0) r in
    elim (mark_cases (mark_by c.args.counted.now.map.now.entries c.loop-spot.seen.items p)) [
      | inl n ↦ (let v = c.in_ok-visit-2.ensures.visited root t' r' (subst (λ m. mark_by m.now.entries c.loop-spot.seen.items p ≡ None) (sym i.same.0) n) in
          let f = v.2.0 in
          let e : C p ≡ Some (shape_of f.definition.now) = ap (λ m. option_map shape_of (get_by_text m.now p)) (sym i.same.0) ∙ ap (λ o. option_map shape_of o) v.2.3 in
          let few = few_more c.args.counted.now.map.now (λ x k. k.2) i.state.marks n e in
          let room : suc (filled c.loop-spot.seen.items) ≤ btree_map_len c.loop-spot.counted.map.now = omega (arith, few, i.state.len, ap (λ m. btree_map_len m.now) i.same.0) in
          let moves = rests_moved references 0 c.in-Some.spot (reverse c.pop.new.self.items) p (sym c.in-Some-referenced_part.ensures.part) in
          let fewer : rests references (reverse c.push.new.self.items) ≤ rests references (reverse c.loop-spot.stack.items) = omega (arith, moves, ap (λ l. rests references l) items, ap (λ l. rests references l) back) in
          left_pushed references c.loop-spot.counted.map.now c.visit-in-Some.new.counted.map.now p (filled c.loop-spot.seen.items) (filled c.visit-in-Some.new.seen.items) f (reverse c.loop-spot.stack.items) (reverse c.push.new.self.items) (reverse c.visit-in-Some.new.stack.items) (ap (λ m. m.now) c.in_ok-visit-2.ensures.same.0) (v.1.2 ∙ add-one _) room v.2.3 v.2.2 fewer v.2.1)
      | inr f ↦ (let w = c.in_ok-visit-2.ensures.again (subst (λ m. IsSeen m.now c.loop-spot.seen.items p) (sym i.same.0) f) in
          left_moved references c.loop-spot.counted.map.now c.visit-in-Some.new.counted.map.now p (filled c.loop-spot.seen.items) (filled c.visit-in-Some.new.seen.items) c.in-Some.spot (reverse c.pop.new.self.items) (reverse c.loop-spot.stack.items) (reverse c.visit-in-Some.new.stack.items) (ap (λ m. m.now) c.in_ok-visit-2.ensures.same.0) (ap (λ q. filled q) w.seen) items (w.waiting ∙ back) (sym c.in-Some-referenced_part.ensures.part))
    ]

pub loop-spot-preserved : goal.loop-spot-preserved
loop-spot-preserved c =
    let i = c.loop-spot.invariant in
    let C = definitions_of c.args.counted.now in
    let root = c.args.root.now in
    let p = c.in-Some-referenced_part.part.now in
    let items = last_first c.pop.new.self.items c.loop-spot.stack.items c.in-Some.spot c.in-Some.ensures.items in
    let s = subst (λ l. WalkState c.args.counted.now.map.now root [] c.loop-spot.seen.items l c.loop-spot.table) items i.state in
    let back = last_first c.pop.new.self.items c.push.new.self.items (moved c.in-Some.spot) c.in_ok-push.ensures.items in
    let t = rules_take C root (reverse c.pop.new.self.items) (reverse c.push.new.self.items) c.in-Some.spot p s (sym c.in-Some-referenced_part.ensures.part) back in
    let r = rules_reached C root (reverse c.pop.new.self.items) c.in-Some.spot p s (sym c.in-Some-referenced_part.ensures.part) in
    let t' = subst (λ m. WalkState m.now root (p ∷ []) c.loop-spot.seen.items (reverse c.push.new.self.items) c.loop-spot.table) (sym i.same.0) t in
    let r' = subst (λ m. Reached (definitions_in m.now) root p) (sym i.same.0) r in
    elim (mark_cases (mark_by c.args.counted.now.map.now.entries c.loop-spot.seen.items p)) [
      | inl n ↦ (let v = c.in_ok-visit-2.ensures.visited root t' r' (subst (λ m. mark_by m.now.entries c.loop-spot.seen.items p ≡ None) (sym i.same.0) n) in
          let k = c.in_ok-visit-2.ensures.counts root t' r' (subst (λ m. mark_by m.now.entries c.loop-spot.seen.items p ≡ None) (sym i.same.0) n) (counts_of c.args.counted.now) i.looks in
          let b = subst (λ m. WalkState m.now root [] c.visit-in-Some.new.seen.items (reverse c.visit-in-Some.new.stack.items) c.visit-in-Some.new.table) i.same.0 v.0 in
          record {
            state = b;
            root_seen = (subst (λ m. HasSeen m.now p c.loop-spot.seen.items c.visit-in-Some.new.seen.items) i.same.0 v.1).0 root i.root_seen;
            looks = both_at (length k.0) (length k.1) _ _ (counts_of c.visit-in-Some.new.counted) (counts_of c.args.counted.now) k.4 k.5.0 k.5.1;
            same = (c.in_ok-visit-2.ensures.same.0 ∙ i.same.0, c.in_ok-visit-2.ensures.same.1 ∙ i.same.1);
            len = c.in_ok-visit-2.ensures.seen ∙ i.len;
          })
      | inr f ↦ (let w = c.in_ok-visit-2.ensures.again (subst (λ m. IsSeen m.now c.loop-spot.seen.items p) (sym i.same.0) f) in
          let b = rules_seen C root p t f in
          let m = c.args.counted.now.map.now in
          record {
            state = subst (λ q. WalkState m root [] q (reverse c.visit-in-Some.new.stack.items) c.visit-in-Some.new.table) (sym w.seen) (subst (λ l. WalkState m root [] c.loop-spot.seen.items l c.visit-in-Some.new.table) (sym w.waiting) (subst (λ z. WalkState m root [] c.loop-spot.seen.items (reverse c.push.new.self.items) z) (sym w.zeros) b));
            root_seen = subst (λ q. IsSeen m q root) (sym w.seen) i.root_seen;
            looks = both_at (filled c.loop-spot.seen.items) (btree_map_len c.loop-spot.table) _ _ (counts_of c.visit-in-Some.new.counted) (counts_of c.args.counted.now) (w.counts ∙ i.looks) (ap (λ q. filled q) (sym w.seen)) (ap (λ z. btree_map_len z) (sym w.zeros));
            same = (c.in_ok-visit-2.ensures.same.0 ∙ i.same.0, c.in_ok-visit-2.ensures.same.1 ∙ i.same.1);
            len = c.in_ok-visit-2.ensures.seen ∙ i.len;
          })
    ]

pub returns-in_err-visit-2-clause-answer : goal.returns-in_err-visit-2-clause-answer
returns-in_err-visit-2-clause-answer c =
    let i = c.loop-spot.invariant in
    let C = definitions_of c.args.counted.now in
    let root = c.args.root.now in
    let p = c.in-Some-referenced_part.part.now in
    let items = last_first c.pop.new.self.items c.loop-spot.stack.items c.in-Some.spot c.in-Some.ensures.items in
    let s = subst (λ l. WalkState c.args.counted.now.map.now root [] c.loop-spot.seen.items l c.loop-spot.table) items i.state in
    let back = last_first c.pop.new.self.items c.push.new.self.items (moved c.in-Some.spot) c.in_ok-push.ensures.items in
    let t = rules_take C root (reverse c.pop.new.self.items) (reverse c.push.new.self.items) c.in-Some.spot p s (sym c.in-Some-referenced_part.ensures.part) back in
    let r = rules_reached C root (reverse c.pop.new.self.items) c.in-Some.spot p s (sym c.in-Some-referenced_part.ensures.part) in
    let t' = subst (λ m. WalkState m.now root (p ∷ []) c.loop-spot.seen.items (reverse c.push.new.self.items) c.loop-spot.table) (sym i.same.0) t in
    let r' = subst (λ m. Reached (definitions_in m.now) root p) (sym i.same.0) r in
    elim (mark_cases (mark_by c.args.counted.now.map.now.entries c.loop-spot.seen.items p)) [
      | inl n ↦ (let fault = c.in_err-visit-2.ensures.visited root t' r' (subst (λ m. mark_by m.now.entries c.loop-spot.seen.items p ≡ None) (sym i.same.0) n) in
          err_is (λ x. IsValid C root) (RulesFault C root) c.from_residual-in_err-visit-2.result c.in_err-visit-2.field-0.0 c.from_residual-in_err-visit-2.ensures.0 c.from_residual-in_err-visit-2.ensures.1
          (subst (λ m. RulesFault (definitions_in m.now) root c.in_err-visit-2.field-0.0) i.same.0 fault))
      | inr f ↦ (let w = (c.in_err-visit-2.ensures.again (subst (λ m. IsSeen m.now c.loop-spot.seen.items p) (sym i.same.0) f)).ok in cc)
    ]

pub returns-in_err-visit-2-clause-work : goal.returns-in_err-visit-2-clause-work
returns-in_err-visit-2-clause-work c =
    let i = c.loop-spot.invariant in
    let C = definitions_of c.args.counted.now in
    let root = c.args.root.now in
    let p = c.in-Some-referenced_part.part.now in
    let items = last_first c.pop.new.self.items c.loop-spot.stack.items c.in-Some.spot c.in-Some.ensures.items in
    let s = subst (λ l. WalkState c.args.counted.now.map.now root [] c.loop-spot.seen.items l c.loop-spot.table) items i.state in
    let back = last_first c.pop.new.self.items c.push.new.self.items (moved c.in-Some.spot) c.in_ok-push.ensures.items in
    let t = rules_take C root (reverse c.pop.new.self.items) (reverse c.push.new.self.items) c.in-Some.spot p s (sym c.in-Some-referenced_part.ensures.part) back in
    let r = rules_reached C root (reverse c.pop.new.self.items) c.in-Some.spot p s (sym c.in-Some-referenced_part.ensures.part) in
    let t' = subst (λ m. WalkState m.now root (p ∷ []) c.loop-spot.seen.items (reverse c.push.new.self.items) c.loop-spot.table) (sym i.same.0) t in
    let r' = subst (λ m. Reached (definitions_in m.now) root p) (sym i.same.0) r in
    elim (mark_cases (mark_by c.args.counted.now.map.now.entries c.loop-spot.seen.items p)) [
      | inl n ↦ (let k = c.in_err-visit-2.ensures.counts root t' r' (subst (λ m. mark_by m.now.entries c.loop-spot.seen.items p ≡ None) (sym i.same.0) n) (counts_of c.args.counted.now) i.looks in
          let all = subst (λ m. AreReached (definitions_in m.now) root k.0) i.same.0 k.2 in
          let zeros = subst (λ m. AreZeroSizeReached (definitions_in m.now) root k.1) i.same.0 k.3 in
          record { names = k.0; zeros = k.1; reached = all; zeros_reached = zeros; few = names_within c.args.counted.now.map.now k.0 all.0 (λ x a. (all.1 x a).1); few_zeros = names_within c.args.counted.now.map.now k.1 zeros.0 (λ x a. (zeros.1 x a).1); counts = k.4 })
      | inr f ↦ (let w = (c.in_err-visit-2.ensures.again (subst (λ m. IsSeen m.now c.loop-spot.seen.items p) (sym i.same.0) f)).ok in cc)
    ]

pub returns-clause-answer : goal.returns-clause-answer
returns-clause-answer c =
    let i = c.loop-spot.invariant in
    let C = definitions_of c.args.counted.now in
    let none = ap (λ l. reverse l) (nil_from_length c.loop-spot.stack.items (omega (arith, c.in_default.ensures.cases.0, c.loop-spot.stack.ok.0))) in
    λ x r. (i.state.marks.looked x (rules_all C c.args.root.now (reverse c.loop-spot.stack.items) i.state none i.root_seen r)).1.1

pub returns-clause-work : goal.returns-clause-work
returns-clause-work c =
    let i = c.loop-spot.invariant in
    let st = i.state in
    let few = few_names c.args.counted.now.map.now (λ x k. k.2) st.marks in
    let zeros = few_names c.args.counted.now.map.now (λ x k. k) st.zero.marks in
    record {
      names = st.names;
      zeros = st.zero.names;
      reached = (st.marks.distinct, λ x a. (let k = (st.marks.looked x a).1 in (k.0, k.2)));
      zeros_reached = (st.zero.marks.distinct, λ x a. (let k = st.zero.marks.looked x a in (st.zeros_reached x k.0, k.1)));
      few = few;
      few_zeros = zeros;
      counts = both_at _ _ _ _ (counts_of c.loop-spot.counted) (counts_of c.args.counted.now) i.looks st.len st.zero.len;
    }

pub returns-clause-counts : goal.returns-clause-counts
returns-clause-counts c =
    let i = c.loop-spot.invariant in
    let st = i.state in
    let C = definitions_of c.args.counted.now in
    let none = ap (λ l. reverse l) (nil_from_length c.loop-spot.stack.items (omega (arith, c.in_default.ensures.cases.0, c.loop-spot.stack.ok.0))) in
    let all : (x : List ℕ) → Reached C c.args.root.now x → IsIn x st.names = λ x r. rules_all C c.args.root.now (reverse c.loop-spot.stack.items) st none i.root_seen r in (
      st.names,
      st.zero.names,
      st.marks.distinct,
      st.zero.marks.distinct,
      (λ x. ((λ a. (st.marks.looked x a).1.0), all x)),
      (λ x d e r q k. let known = (st.marks.looked e (all e (onward d r q (checked_referenced d e k)))).1.2 in
          let mark = has_mark (mark_of c.loop-spot.table e) (st.elements x d e (all x r) q k (λ h. let g = known.1 in cc)) in
          st.zero.marks.marked e mark.0 mark.1),
      both_at _ _ _ _ (counts_of c.loop-spot.counted) (counts_of c.args.counted.now) i.looks st.len st.zero.len,
    )
