use Rattle.std.proofs.Common.{◌≡◌, List, suc, ◌+◌, ◌-◌, ◌*◌, ◌<◌, ◌≤◌, [], ◌∷◌, length, reverse, refl, sym, ◌∙◌, ap, subst, arith, Some, None}
use Rattle.std.specs.BTreeMap.{btree_map_len, get_by_text}
use Rattle.std.specs.Prelude.{Option, replicate, slice_set}
use Rattle.std.proofs.lemmas.List.{nil_from_length, length-set, length-replicate}
use Rattle.borsh_walks.specs.declared.sizes.Frame.{Frame}
use Rattle.borsh_walks.specs.declared.stack.Spot.{Spot}
use Rattle.borsh_walks.specs.Container.{first, size_references, stays}
use Rattle.borsh_walks.specs.Places.{filled, mark_by, place_in}
use Rattle.borsh_walks.specs.Counts.{counts_of, definitions_of}
use Rattle.borsh_walks.specs.declared.sizes.Mark.{Mark}
use Rattle.borsh_walks.specs.declared.sizes.Mark.TheVariants.{Open, Finished}
use Rattle.borsh_walks.specs.declared.counted.Question.TheVariants.{Size}
use Rattle.borsh_walks.proofs.Names.{distinct_none, found_shape, found_none, also_known}
use Rattle.borsh_walks.proofs.PlaceLaws.{at_replicate, filled_again, filled_more, marked_at, none_filled, none_marked, place_within, updated_place}
use Rattle.borsh_walks.proofs.Tables.{Updated, more_names, few_more}
use Rattle.borsh_walks.proofs.Measure.{work, rests, rests_moved, left_moved, left_popped, left_pushed}
use Rattle.borsh_walks.proofs.Spots.{moved, last_first}
use Rattle.borsh_walks.proofs.Counting.{raised_once_more, on_err}
use Rattle.borsh_walks.proofs.SizeExits.{missing_fault}
use Rattle.borsh_walks.proofs.SizeWalk.{AllPlaced, AllSmall, spots_of, State, step_start, step_add, step_push, step_pop, step_end, fault_gather, fault_finish, fault_cycle, part_needed}
use Rattle.borsh_walks.proofs.sizes.walk_sizes.Goals as goal

pub returns-in_err-places-clause-counts : goal.returns-in_err-places-clause-counts
returns-in_err-places-clause-counts c = ([], record { once = distinct_none; needed = λ x a. elim a [ ]; counts = refl }, on_err _ c.from_residual.result c.from_residual.ensures.0)

pub returns-in_default-clause-answer : goal.returns-in_default-clause-answer
returns-in_default-clause-answer c = missing_fault (definitions_of c.args.counted.now) c.args.root.now c.args.root.now c.missing.result c.missing.ensures stays (found_none c.in_ok-places.places.map c.args.counted.now.map c.args.root.now c.in_ok-places.ensures.0 c.in_default.ensures.definition)

pub returns-in_default-clause-counts : goal.returns-in_default-clause-counts
returns-in_default-clause-counts c = ([], record { once = distinct_none; needed = λ x a. elim a [ ]; counts = refl }, tt)

pub returns-in_err-marks-clause-counts : goal.returns-in_err-marks-clause-counts
returns-in_err-marks-clause-counts c = ([], record { once = distinct_none; needed = λ x a. elim a [ ]; counts = refl }, on_err _ c.from_residual-in_err-marks.result c.from_residual-in_err-marks.ensures.0)

pub set_mark-requires : goal.set_mark-requires
set_mark-requires c =
    let E = c.args.counted.now.map.now.entries in
    let p = ap (λ m. place_in m.now.entries c.args.root.now) (sym c.in_ok-places.ensures.0) ∙ sym c.in-Some.ensures.place in
    omega (arith, place_within E c.args.root.now c.in-Some.place p, ap (λ l. length l) c.in_ok-marks.ensures, length-replicate {A = Option Mark} c.len.result None, c.len.ensures.len)

pub loop-part-init : goal.loop-part-init
loop-part-init c =
    let C = definitions_of c.args.counted.now in
    let E = c.args.counted.now.map.now.entries in
    let n = c.len.result in
    let none : List (Option Mark) = replicate n None in
    let root = c.args.root.now in
    let e = found_shape c.in_ok-places.places.map c.args.counted.now.map root c.in-Some.definition.now c.in_ok-places.ensures.0 c.in-Some.ensures.definition in
    let p : place_in E root ≡ Some c.in-Some.place = ap (λ m. place_in m.now.entries root) (sym c.in_ok-places.ensures.0) ∙ sym c.in-Some.ensures.place in
    let count = c.len.ensures.len in
    let low : c.in-Some.place < n = omega (arith, place_within E root c.in-Some.place p, count) in
    let set : c.set_mark.new.marks.items ≡ slice_set none c.in-Some.place (Some Open) = c.set_mark.ensures ∙ ap (λ l. slice_set l c.in-Some.place (Some Open)) c.in_ok-marks.ensures in
    let u = subst (λ l. Updated (mark_by E none) (mark_by E l) root Open) (sym set) (updated_place E none root c.in-Some.place Open p (omega (arith, low, length-replicate {A = Option Mark} n None))) in
    let f : Frame = record { spot = record { name = c.args.root; definition = c.in-Some.definition; next = 0 }; gathered = 0; place = c.in-Some.place } in
    let s = step_start C {f = f} (none_marked E n) u e refl refl in
    record {
      names = root ∷ [];
      state = subst (λ l. State C root (mark_by E c.set_mark.new.marks.items) (reverse l) (record { spot = c.at.result; gathered = 0; place = c.in-Some.place }) (root ∷ [])) (sym c.new-stack.ensures.items) (subst (λ g. State C root (mark_by E c.set_mark.new.marks.items) [] (record { spot = g; gathered = 0; place = c.in-Some.place }) (root ∷ [])) (sym c.at.ensures) s);
      looks = c.visit.ensures.counts;
      same = (c.visit.ensures.same.0, c.visit.ensures.same.1);
      marked = ap (λ l. filled l) set ∙ filled_more none c.in-Some.place Open (at_replicate None n c.in-Some.place low) ∙ ap (λ k. suc k) (none_filled Mark n);
      len = ap (λ l. length l) set ∙ length-set none c.in-Some.place (Some Open) ∙ length-replicate {A = Option Mark} n None ∙ count;
      placed = (ap (λ s. place_in E s.name.now) c.at.ensures ∙ p, subst (λ l. AllPlaced E (reverse l)) (sym c.new-stack.ensures.items) tt);
      small = subst (λ l. AllSmall (reverse l)) (sym c.new-stack.ensures.items) tt;
    }

pub returns-in_default-find-clause-answer : goal.returns-in_default-find-clause-answer
returns-in_default-find-clause-answer c =
    missing_fault (definitions_of c.args.counted.now) c.args.root.now c.in-Some-needed_part.part.now c.missing-in_default-find.result c.missing-in_default-find.ensures
    (part_needed (definitions_of c.args.counted.now) c.in-Some-needed_part.part.now c.loop-part.invariant.state (sym c.in-Some-needed_part.ensures.part))
    (found_none c.in_ok-places.places.map c.args.counted.now.map c.in-Some-needed_part.part.now c.in_ok-places.ensures.0 c.in_default-find.ensures.definition)

pub mark_at-requires : goal.mark_at-requires
mark_at-requires c =
    let E = c.args.counted.now.map.now.entries in
    let part = c.in-Some-needed_part.part.now in
    let p = ap (λ m. place_in m.now.entries part) (sym c.in_ok-places.ensures.0) ∙ sym c.in-Some-find.ensures.place in
    omega (arith, place_within E part c.in-Some-find.place p, c.loop-part.invariant.len)

pub returns-in_default-gather-clause-answer : goal.returns-in_default-gather-clause-answer
returns-in_default-gather-clause-answer c =
    let i = c.loop-part.invariant in
    let C = definitions_of c.args.counted.now in
    let E = c.args.counted.now.map.now.entries in
    let part = c.in-Some-needed_part.part.now in
    let p = ap (λ m. place_in m.now.entries part) (sym c.in_ok-places.ensures.0) ∙ sym c.in-Some-find.ensures.place in
    let m = marked_at E c.loop-part.marks.items part c.in-Some-find.place c.mark_at.result p c.mark_at.ensures in
    fault_gather C 18446744073709551616 part c.in-Some-Finished.size i.state (sym c.in-Some-needed_part.ensures.part) (m ∙ c.in-Some-Finished.is ∙ ap Some c.in-Some-Finished.field-0-is) (rw c.in-Some-Finished.size-is at c.in_default-gather.ensures)

pub loop-part-smaller-in-Some-Finished : goal.loop-part-smaller-in-Some-Finished
loop-part-smaller-in-Some-Finished c =
    left_moved size_references c.loop-part.counted.map.now c.loop-part.counted.map.now c.in-Some-needed_part.part.now (filled c.loop-part.marks.items) (filled c.loop-part.marks.items) c.loop-part.frame.spot (spots_of (reverse c.loop-part.stack.items)) (spots_of (c.loop-part.frame ∷ reverse c.loop-part.stack.items)) (moved c.loop-part.frame.spot ∷ spots_of (reverse c.loop-part.stack.items)) refl refl refl refl (sym c.in-Some-needed_part.ensures.part)

pub loop-part-preserved-in-Some-Finished : goal.loop-part-preserved-in-Some-Finished
loop-part-preserved-in-Some-Finished c =
    let i = c.loop-part.invariant in
    let C = definitions_of c.args.counted.now in
    let E = c.args.counted.now.map.now.entries in
    let part = c.in-Some-needed_part.part.now in
    let p = ap (λ m. place_in m.now.entries part) (sym c.in_ok-places.ensures.0) ∙ sym c.in-Some-find.ensures.place in
    let m = marked_at E c.loop-part.marks.items part c.in-Some-find.place c.mark_at.result p c.mark_at.ensures in
    record {
      names = i.names;
      state = step_add C part c.in-Some-Finished.size _ i.state (sym c.in-Some-needed_part.ensures.part) (m ∙ c.in-Some-Finished.is ∙ ap Some c.in-Some-Finished.field-0-is) (rw c.in-Some-Finished.size-is at c.in-Some-gather.ensures);
      looks = i.looks;
      same = (i.same.0, i.same.1);
      marked = i.marked;
      len = i.len;
      placed = i.placed;
      small = i.small;
    }

pub returns-in-Some-Open-clause-answer : goal.returns-in-Some-Open-clause-answer
returns-in-Some-Open-clause-answer c =
    let i = c.loop-part.invariant in
    let C = definitions_of c.args.counted.now in
    let E = c.args.counted.now.map.now.entries in
    let part = c.in-Some-needed_part.part.now in
    let p = ap (λ m. place_in m.now.entries part) (sym c.in_ok-places.ensures.0) ∙ sym c.in-Some-find.ensures.place in
    let m = marked_at E c.loop-part.marks.items part c.in-Some-find.place c.mark_at.result p c.mark_at.ensures in
    fault_cycle C part i.state (sym c.in-Some-needed_part.ensures.part) (m ∙ c.in-Some-Open.is ∙ ap Some c.in-Some-Open.field-0-is)

pub set_mark-requires-in-None-mark_at : goal.set_mark-requires-in-None-mark_at
set_mark-requires-in-None-mark_at c =
    let E = c.args.counted.now.map.now.entries in
    let part = c.in-Some-needed_part.part.now in
    let p = ap (λ m. place_in m.now.entries part) (sym c.in_ok-places.ensures.0) ∙ sym c.in-Some-find.ensures.place in
    omega (arith, place_within E part c.in-Some-find.place p, c.loop-part.invariant.len)

pub returns-in_err-push-in-None-mark_at-clause-counts : goal.returns-in_err-push-in-None-mark_at-clause-counts
returns-in_err-push-in-None-mark_at-clause-counts c =
    let i = c.loop-part.invariant in
    let C = definitions_of c.args.counted.now in
    let E = c.args.counted.now.map.now.entries in
    let part = c.in-Some-needed_part.part.now in
    let p = ap (λ m. place_in m.now.entries part) (sym c.in_ok-places.ensures.0) ∙ sym c.in-Some-find.ensures.place in
    let m = marked_at E c.loop-part.marks.items part c.in-Some-find.place c.mark_at.result p c.mark_at.ensures in
    let e = found_shape c.in_ok-places.places.map c.args.counted.now.map part c.in-Some-find.definition.now c.in_ok-places.ensures.0 c.in-Some-find.ensures.definition in
    let l = more_names C (λ x k. k.1) i.state.marks (m ∙ c.in-None-mark_at.is) e in (
      part ∷ i.names,
      record {
        once = l.0;
        needed = also_known (part_needed C part i.state (sym c.in-Some-needed_part.ensures.part), (_, e)) (λ x a. (i.state.marks.looked x a).1);
        counts = raised_once_more Size (length i.names) (counts_of c.loop-part.counted) (counts_of c.visit-in-None-mark_at.new.self) (counts_of c.args.counted.now) i.looks c.visit-in-None-mark_at.ensures.counts;
      },
      on_err _ c.from_residual-in_err-push-in-None-mark_at.result c.from_residual-in_err-push-in-None-mark_at.ensures.0,
    )

pub loop-part-smaller-in-None-mark_at : goal.loop-part-smaller-in-None-mark_at
loop-part-smaller-in-None-mark_at c =
    let i = c.loop-part.invariant in
    let C = definitions_of c.args.counted.now in
    let E = c.args.counted.now.map.now.entries in
    let part = c.in-Some-needed_part.part.now in
    let p = ap (λ m. place_in m.now.entries part) (sym c.in_ok-places.ensures.0) ∙ sym c.in-Some-find.ensures.place in
    let m = marked_at E c.loop-part.marks.items part c.in-Some-find.place c.mark_at.result p c.mark_at.ensures in
    let e = found_shape c.in_ok-places.places.map c.args.counted.now.map part c.in-Some-find.definition.now c.in_ok-places.ensures.0 c.in-Some-find.ensures.definition in
    let room = few_more c.args.counted.now.map.now (λ x k. k.1) i.state.marks (m ∙ c.in-None-mark_at.is) e in
    let len : filled c.set_mark-in-None-mark_at.new.marks.items ≡ suc (filled c.loop-part.marks.items) = ap (λ l. filled l) c.set_mark-in-None-mark_at.ensures ∙ filled_more c.loop-part.marks.items c.in-Some-find.place Open (c.mark_at.ensures ∙ ap Some c.in-None-mark_at.is) in
    let room_here : suc (filled c.loop-part.marks.items) ≤ btree_map_len c.loop-part.counted.map.now = omega (arith, room, i.marked, ap (λ m. btree_map_len m.now) i.same.0) in
    let found = ap (λ m. get_by_text m.now part) (i.same.0 ∙ sym c.in_ok-places.ensures.0) ∙ sym c.in-Some-find.ensures.definition in
    let f = c.loop-part.frame in
    let g : Spot = record { name = c.in-Some-needed_part.part; definition = c.in-Some-find.definition; next = 0 } in
    let same = ap (λ l. rests size_references (spots_of l)) (last_first c.loop-part.stack.items c.push.new.self.items f c.in_ok-push-in-None-mark_at.ensures.items) in
    left_pushed size_references c.loop-part.counted.map.now c.visit-in-None-mark_at.new.self.map.now part (filled c.loop-part.marks.items) (filled c.set_mark-in-None-mark_at.new.marks.items) g (spots_of (f ∷ reverse c.loop-part.stack.items)) (spots_of (reverse c.push.new.self.items)) (c.at-in-None-mark_at.result ∷ spots_of (reverse c.push.new.self.items)) (ap (λ m. m.now) c.visit-in-None-mark_at.ensures.same.0) len room_here found refl (omega (arith, same)) (ap (λ v. v ∷ spots_of (reverse c.push.new.self.items)) c.at-in-None-mark_at.ensures)

pub loop-part-preserved-in-None-mark_at : goal.loop-part-preserved-in-None-mark_at
loop-part-preserved-in-None-mark_at c =
    let i = c.loop-part.invariant in
    let C = definitions_of c.args.counted.now in
    let E = c.args.counted.now.map.now.entries in
    let part = c.in-Some-needed_part.part.now in
    let place = c.in-Some-find.place in
    let ms = c.set_mark-in-None-mark_at.new.marks.items in
    let p : place_in E part ≡ Some place = ap (λ m. place_in m.now.entries part) (sym c.in_ok-places.ensures.0) ∙ sym c.in-Some-find.ensures.place in
    let m = marked_at E c.loop-part.marks.items part place c.mark_at.result p c.mark_at.ensures in
    let e = found_shape c.in_ok-places.places.map c.args.counted.now.map part c.in-Some-find.definition.now c.in_ok-places.ensures.0 c.in-Some-find.ensures.definition in
    let u = subst (λ l. Updated (mark_by E c.loop-part.marks.items) (mark_by E l) part Open) (sym c.set_mark-in-None-mark_at.ensures) (updated_place E c.loop-part.marks.items part place Open p (omega (arith, place_within E part place p, i.len))) in
    let g : Frame = record { spot = record { name = c.in-Some-needed_part.part; definition = c.in-Some-find.definition; next = 0 }; gathered = 0; place = place } in
    let back = last_first c.loop-part.stack.items c.push.new.self.items c.loop-part.frame c.in_ok-push-in-None-mark_at.ensures.items in
    let s = step_push C {g = g} i.state (sym c.in-Some-needed_part.ensures.part) (m ∙ c.in-None-mark_at.is) e u refl refl in
    record {
      names = part ∷ i.names;
      state = subst (λ l. State C c.args.root.now (mark_by E ms) l (record { spot = c.at-in-None-mark_at.result; gathered = 0; place = place }) (part ∷ i.names)) (sym back) (subst (λ v. State C c.args.root.now (mark_by E ms) (c.loop-part.frame ∷ reverse c.loop-part.stack.items) (record { spot = v; gathered = 0; place = place }) (part ∷ i.names)) (sym c.at-in-None-mark_at.ensures) s);
      looks = raised_once_more Size (length i.names) (counts_of c.loop-part.counted) (counts_of c.visit-in-None-mark_at.new.self) (counts_of c.args.counted.now) i.looks c.visit-in-None-mark_at.ensures.counts;
      same = (c.visit-in-None-mark_at.ensures.same.0 ∙ i.same.0, c.visit-in-None-mark_at.ensures.same.1 ∙ i.same.1);
      marked = ap (λ l. filled l) c.set_mark-in-None-mark_at.ensures ∙ filled_more c.loop-part.marks.items place Open (c.mark_at.ensures ∙ ap Some c.in-None-mark_at.is) ∙ ap (λ k. suc k) i.marked;
      len = ap (λ l. length l) c.set_mark-in-None-mark_at.ensures ∙ length-set c.loop-part.marks.items place (Some Open) ∙ i.len;
      placed = (ap (λ s. place_in E s.name.now) c.at-in-None-mark_at.ensures ∙ p, subst (λ l. AllPlaced E l) (sym back) i.placed);
      small = subst (λ l. AllSmall l) (sym back) (c.in-Some-needed_part.ensures.small, i.small);
    }

pub returns-in_default-finish-clause-answer : goal.returns-in_default-finish-clause-answer
returns-in_default-finish-clause-answer c =
    fault_finish (definitions_of c.args.counted.now) 18446744073709551616 c.loop-part.invariant.state (sym c.in-None.ensures.part) c.in_default-finish.ensures

pub set_mark-requires-in-None : goal.set_mark-requires-in-None
set_mark-requires-in-None c =
    let i = c.loop-part.invariant in
    omega (arith, place_within c.args.counted.now.map.now.entries c.loop-part.frame.spot.name.now c.loop-part.frame.place i.placed.0, i.len)

pub returns-in_default-gather-2-clause-answer : goal.returns-in_default-gather-2-clause-answer
returns-in_default-gather-2-clause-answer c =
    let i = c.loop-part.invariant in
    let C = definitions_of c.args.counted.now in
    let E = c.args.counted.now.map.now.entries in
    let f = c.loop-part.frame in
    let u = subst (λ l. Updated (mark_by E c.loop-part.marks.items) (mark_by E l) f.spot.name.now (Finished c.in-Some-finish.size)) (sym c.set_mark-in-None.ensures) (updated_place E c.loop-part.marks.items f.spot.name.now f.place (Finished c.in-Some-finish.size) i.placed.0 (omega (arith, place_within E f.spot.name.now f.place i.placed.0, i.len))) in
    let items = last_first c.pop.new.self.items c.loop-part.stack.items c.in-Some-pop.above c.in-Some-pop.ensures.items in
    let s = subst (λ l. State C c.args.root.now (mark_by E c.loop-part.marks.items) l f i.names) items i.state in
    let t = step_pop C c.in-Some-finish.size s (sym c.in-None.ensures.part) c.in-Some-finish.ensures u in
    fault_gather C 18446744073709551616 f.spot.name.now c.in-Some-finish.size t s.chain.1 u.here c.in_default-gather-2.ensures

pub overflow_add-frame-in-Some-pop : goal.overflow_add-frame-in-Some-pop
overflow_add-frame-in-Some-pop c =
    let items = last_first c.pop.new.self.items c.loop-part.stack.items c.in-Some-pop.above c.in-Some-pop.ensures.items in
    let a = (subst (λ l. AllSmall l) items c.loop-part.invariant.small).0 in
    omega (arith, a)

pub loop-part-smaller : goal.loop-part-smaller
loop-part-smaller c =
    let i = c.loop-part.invariant in
    let E = c.args.counted.now.map.now.entries in
    let f = c.loop-part.frame in
    let items = last_first c.pop.new.self.items c.loop-part.stack.items c.in-Some-pop.above c.in-Some-pop.ensures.items in
    let s = subst (λ l. State (definitions_of c.args.counted.now) c.args.root.now (mark_by E c.loop-part.marks.items) l f i.names) items i.state in
    let len = ap (λ l. filled l) c.set_mark-in-None.ensures ∙ filled_again c.loop-part.marks.items f.place (Finished c.in-Some-finish.size) (λ h. let o = sym (marked_at E c.loop-part.marks.items f.spot.name.now f.place None i.placed.0 h) ∙ i.state.opened f.spot.name.now first in cc) in
    let popped = left_popped size_references c.loop-part.counted.map.now (filled c.loop-part.marks.items) (filled c.set_mark-in-None.new.marks.items) f.spot (spots_of (c.in-Some-pop.above ∷ reverse c.pop.new.self.items)) (spots_of (f ∷ reverse c.loop-part.stack.items)) len (ap (λ l. spots_of (f ∷ l)) items) i.state.ok.low in
    let goes_on = rests_moved size_references ((btree_map_len c.loop-part.counted.map.now - filled c.set_mark-in-None.new.marks.items) * (2 + work size_references c.loop-part.counted.map.now.entries)) c.in-Some-pop.above.spot (spots_of (reverse c.pop.new.self.items)) f.spot.name.now s.chain.1 in
    omega (arith, popped, goes_on)

pub loop-part-preserved : goal.loop-part-preserved
loop-part-preserved c =
    let i = c.loop-part.invariant in
    let C = definitions_of c.args.counted.now in
    let E = c.args.counted.now.map.now.entries in
    let f = c.loop-part.frame in
    let u = subst (λ l. Updated (mark_by E c.loop-part.marks.items) (mark_by E l) f.spot.name.now (Finished c.in-Some-finish.size)) (sym c.set_mark-in-None.ensures) (updated_place E c.loop-part.marks.items f.spot.name.now f.place (Finished c.in-Some-finish.size) i.placed.0 (omega (arith, place_within E f.spot.name.now f.place i.placed.0, i.len))) in
    let items = last_first c.pop.new.self.items c.loop-part.stack.items c.in-Some-pop.above c.in-Some-pop.ensures.items in
    let s = subst (λ l. State C c.args.root.now (mark_by E c.loop-part.marks.items) l f i.names) items i.state in
    let t = step_pop C c.in-Some-finish.size s (sym c.in-None.ensures.part) c.in-Some-finish.ensures u in
    let len = ap (λ l. filled l) c.set_mark-in-None.ensures ∙ filled_again c.loop-part.marks.items f.place (Finished c.in-Some-finish.size) (λ h. let o = sym (marked_at E c.loop-part.marks.items f.spot.name.now f.place None i.placed.0 h) ∙ i.state.opened f.spot.name.now first in cc) in
    record {
      names = i.names;
      state = step_add C f.spot.name.now c.in-Some-finish.size _ t s.chain.1 u.here c.in-Some-gather-2.ensures;
      looks = i.looks;
      same = (i.same.0, i.same.1);
      marked = len ∙ i.marked;
      len = ap (λ l. length l) c.set_mark-in-None.ensures ∙ length-set c.loop-part.marks.items f.place (Some (Finished c.in-Some-finish.size)) ∙ i.len;
      placed = subst (λ l. AllPlaced E l) items i.placed.1;
      small = (subst (λ l. AllSmall l) items i.small).1;
    }

pub returns-in-None-pop-clause-answer : goal.returns-in-None-pop-clause-answer
returns-in-None-pop-clause-answer c =
    let i = c.loop-part.invariant in
    let C = definitions_of c.args.counted.now in
    let E = c.args.counted.now.map.now.entries in
    let f = c.loop-part.frame in
    let u = subst (λ l. Updated (mark_by E c.loop-part.marks.items) (mark_by E l) f.spot.name.now (Finished c.in-Some-finish.size)) (sym c.set_mark-in-None.ensures) (updated_place E c.loop-part.marks.items f.spot.name.now f.place (Finished c.in-Some-finish.size) i.placed.0 (omega (arith, place_within E f.spot.name.now f.place i.placed.0, i.len))) in
    let none = nil_from_length c.loop-part.stack.items (omega (arith, c.in-None-pop.ensures.cases.0, c.loop-part.stack.ok.0)) in
    let s = subst (λ l. State C c.args.root.now (mark_by E c.loop-part.marks.items) (reverse l) f i.names) none i.state in
    (step_end C c.in-Some-finish.size s (sym c.in-None.ensures.part) c.in-Some-finish.ensures u).0

pub returns-in-None-pop-clause-counts : goal.returns-in-None-pop-clause-counts
returns-in-None-pop-clause-counts c =
    let i = c.loop-part.invariant in
    let C = definitions_of c.args.counted.now in
    let E = c.args.counted.now.map.now.entries in
    let f = c.loop-part.frame in
    let u = subst (λ l. Updated (mark_by E c.loop-part.marks.items) (mark_by E l) f.spot.name.now (Finished c.in-Some-finish.size)) (sym c.set_mark-in-None.ensures) (updated_place E c.loop-part.marks.items f.spot.name.now f.place (Finished c.in-Some-finish.size) i.placed.0 (omega (arith, place_within E f.spot.name.now f.place i.placed.0, i.len))) in
    let none = nil_from_length c.loop-part.stack.items (omega (arith, c.in-None-pop.ensures.cases.0, c.loop-part.stack.ok.0)) in
    let s = subst (λ l. State C c.args.root.now (mark_by E c.loop-part.marks.items) (reverse l) f i.names) none i.state in
    (i.names, record { once = i.state.marks.distinct; needed = λ x a. (i.state.marks.looked x a).1; counts = i.looks }, (step_end C c.in-Some-finish.size s (sym c.in-None.ensures.part) c.in-Some-finish.ensures u).1)
