use Rattle.std.proofs.Common.{suc, ◌≤◌, [], ◌∷◌, length, reverse, refl, sym, ◌∙◌, ap, subst, arith, Some, inl, true, false}
use Rattle.std.specs.BTreeMap.{btree_map_len}
use Rattle.std.proofs.lemmas.List.{nil_from_length}
use Rattle.borsh_walks.specs.Container.{first, stays}
use Rattle.borsh_walks.specs.Counts.{counts_of, definitions_of}
use Rattle.borsh_walks.specs.ZeroAnswer.{zero_size_parts, IsZeroCount}
use Rattle.borsh_walks.specs.Tables.{mark_of}
use Rattle.borsh_walks.specs.declared.stack.Spot.{Spot}
use Rattle.borsh_walks.specs.declared.counted.Question.TheVariants.{Zero as ZeroQuestion}
use Rattle.borsh_walks.proofs.Names.{found_shape, found_none}
use Rattle.borsh_walks.proofs.Tables.{updated_by, still, grown, kept, few_more, gained_more, marks_again}
use Rattle.borsh_walks.proofs.Measure.{rests, rests_moved, left_popped, left_pushed}
use Rattle.borsh_walks.proofs.Spots.{last_first}
use Rattle.borsh_walks.proofs.Counting.{raised_once_more, on_err}
use Rattle.borsh_walks.proofs.ZeroWalk.{ZeroState, zero_start, zero_moved, zero_push, zero_pop, zero_end, zero_never, zero_part_false, zero_part_missing, zero_last, zero_next}
use Rattle.borsh_walks.proofs.ZeroExits.{none_is, some_is, table_false, answer_false, in_names, counted_names, counted_more, counted_same}
use Rattle.borsh_walks.proofs.zero.is_zero.Goals as goal

pub returns-in-Some-clause-counts : goal.returns-in-Some-clause-counts
returns-in-Some-clause-counts c = counted_same _ c.requires refl

pub returns-in_default-look-clause-counts : goal.returns-in_default-look-clause-counts
returns-in_default-look-clause-counts c = counted_same _ c.requires c.in_default-look.ensures.counts

pub returns-in_err-insert-clause-counts : goal.returns-in_err-insert-clause-counts
returns-in_err-insert-clause-counts c =
    let r = c.requires in
    let e = found_shape c.args.counted.now.map c.args.counted.now.map c.args.name.now c.in-Some-look.definition.now refl c.in-Some-look.ensures.found in
    counted_more c.from_residual.result c.insert.new.self r.marks (λ x k. inl k) (sym c.in_default.ensures.value) e stays
    (λ base h. raised_once_more ZeroQuestion (length r.names) (counts_of c.args.counted.now) (counts_of c.look.new.self) base (subst (λ k. IsZeroCount c.args.counted.now k base) r.len h) c.in-Some-look.ensures.counts)
    c.from_residual.ensures.0

pub loop-spot-init : goal.loop-spot-init
loop-spot-init c =
    let r = c.requires in
    let C = definitions_of c.args.counted.now in
    let e = found_shape c.args.counted.now.map c.args.counted.now.map c.args.name.now c.in-Some-look.definition.now refl c.in-Some-look.ensures.found in
    let none = sym c.in_default.ensures.value in
    let u = updated_by c.args.name.now c.args.table.now c.insert.new.self false c.in_ok-insert.ensures.updates in
    let f : Spot = record { name = c.args.name; definition = c.in-Some-look.definition; next = 0 } in
    let s = zero_start C {f = f} r.marks r.zero_is r.not_zero_is none u e refl in
    record {
      names = c.args.name.now ∷ r.names;
      state = subst (λ l. ZeroState C c.args.name.now (mark_of c.insert.new.self) (reverse l) c.at-spot.result (c.args.name.now ∷ r.names)) (sym c.new-stack.ensures.items) (subst (λ g. ZeroState C c.args.name.now (mark_of c.insert.new.self) [] g (c.args.name.now ∷ r.names)) (sym c.at-spot.ensures) s);
      gained = gained_more u (λ x k. inl k) stays;
      looks = λ base h. raised_once_more ZeroQuestion (length r.names) (counts_of c.args.counted.now) (counts_of c.look.new.self) base (subst (λ k. IsZeroCount c.args.counted.now k base) r.len h) c.in-Some-look.ensures.counts;
      same = (c.in-Some-look.ensures.same.0, c.in-Some-look.ensures.same.1);
      table_len = grown c.in_ok-insert.field-0 c.in_ok-insert.ensures.len (c.in_ok-insert.ensures.old ∙ none) ∙ ap (λ k. suc k) r.len;
      stay = still u;
      name_marked = λ h. let a = u.here in cc;
    }

pub returns-then-never_zero-clause-answer : goal.returns-then-never_zero-clause-answer
returns-then-never_zero-clause-answer c = let i = c.loop-spot.invariant in let C = definitions_of c.args.counted.now in answer_false C i.state (zero_never C i.state (none_is _ c.if-never_zero.ensures))

pub returns-then-never_zero-clause-table : goal.returns-then-never_zero-clause-table
returns-then-never_zero-clause-table c = let i = c.loop-spot.invariant in let C = definitions_of c.args.counted.now in table_false C i.state i.table_len (zero_never C i.state (none_is _ c.if-never_zero.ensures))

pub returns-then-never_zero-clause-counts : goal.returns-then-never_zero-clause-counts
returns-then-never_zero-clause-counts c =
    let i = c.loop-spot.invariant in
    counted_names _ c.loop-spot.table i.state.marks i.gained i.looks (sym i.table_len, in_names i.state.marks)

pub loop-spot-smaller-in-Some-true : goal.loop-spot-smaller-in-Some-true
loop-spot-smaller-in-Some-true c = rests_moved zero_size_parts _ c.loop-spot.spot (reverse c.loop-spot.stack.items) c.in-Some-zero_size_part.part.now (sym c.in-Some-zero_size_part.ensures.part)

pub loop-spot-preserved-in-Some-true : goal.loop-spot-preserved-in-Some-true
loop-spot-preserved-in-Some-true c =
    let i = c.loop-spot.invariant in
    let C = definitions_of c.args.counted.now in
    record {
      names = i.names;
      state = zero_moved C c.in-Some-zero_size_part.part.now i.state (sym c.in-Some-zero_size_part.ensures.part) (sym c.in-Some-true.ensures.value ∙ ap Some c.in-Some-true.field-0-test);
      gained = i.gained;
      looks = i.looks;
      same = (i.same.0, i.same.1);
      table_len = i.table_len;
      stay = i.stay;
      name_marked = i.name_marked;
    }

pub returns-in-Some-false-clause-answer : goal.returns-in-Some-false-clause-answer
returns-in-Some-false-clause-answer c = let i = c.loop-spot.invariant in let C = definitions_of c.args.counted.now in
    answer_false C i.state (zero_part_false C c.in-Some-zero_size_part.part.now i.state (sym c.in-Some-zero_size_part.ensures.part) (sym c.in-Some-false.ensures.value ∙ ap Some c.in-Some-false.field-0-test))

pub returns-in-Some-false-clause-table : goal.returns-in-Some-false-clause-table
returns-in-Some-false-clause-table c = let i = c.loop-spot.invariant in let C = definitions_of c.args.counted.now in
    table_false C i.state i.table_len (zero_part_false C c.in-Some-zero_size_part.part.now i.state (sym c.in-Some-zero_size_part.ensures.part) (sym c.in-Some-false.ensures.value ∙ ap Some c.in-Some-false.field-0-test))

pub returns-in-Some-false-clause-counts : goal.returns-in-Some-false-clause-counts
returns-in-Some-false-clause-counts c =
    let i = c.loop-spot.invariant in
    counted_names _ c.loop-spot.table i.state.marks i.gained i.looks (sym i.table_len, in_names i.state.marks)

pub returns-in_default-look-2-clause-answer : goal.returns-in_default-look-2-clause-answer
returns-in_default-look-2-clause-answer c = let i = c.loop-spot.invariant in let C = definitions_of c.args.counted.now in
    answer_false C i.state (zero_part_missing C c.in-Some-zero_size_part.part.now i.state (sym c.in-Some-zero_size_part.ensures.part) (found_none c.loop-spot.counted.map c.args.counted.now.map c.in-Some-zero_size_part.part.now i.same.0 c.in_default-look-2.ensures.found))

pub returns-in_default-look-2-clause-table : goal.returns-in_default-look-2-clause-table
returns-in_default-look-2-clause-table c = let i = c.loop-spot.invariant in let C = definitions_of c.args.counted.now in
    table_false C i.state i.table_len (zero_part_missing C c.in-Some-zero_size_part.part.now i.state (sym c.in-Some-zero_size_part.ensures.part) (found_none c.loop-spot.counted.map c.args.counted.now.map c.in-Some-zero_size_part.part.now i.same.0 c.in_default-look-2.ensures.found))

pub returns-in_default-look-2-clause-counts : goal.returns-in_default-look-2-clause-counts
returns-in_default-look-2-clause-counts c =
    let i = c.loop-spot.invariant in
    counted_names _ c.loop-spot.table i.state.marks i.gained (λ base h. c.in_default-look-2.ensures.counts ∙ i.looks base h) (sym i.table_len, in_names i.state.marks)

pub returns-in_err-insert-in-None-get-clause-counts : goal.returns-in_err-insert-in-None-get-clause-counts
returns-in_err-insert-in-None-get-clause-counts c =
    let i = c.loop-spot.invariant in
    let p = c.in-Some-zero_size_part.part.now in
    let e = found_shape c.loop-spot.counted.map c.args.counted.now.map p c.in-Some-look-2.definition.now i.same.0 c.in-Some-look-2.ensures.found in
    counted_more c.from_residual-in_err-insert-in-None-get.result c.insert-in-None-get.new.self i.state.marks i.gained (sym c.in-None-get.ensures.value) e
    (zero_next (definitions_of c.args.counted.now) p i.state (sym c.in-Some-zero_size_part.ensures.part))
    (λ base h. raised_once_more ZeroQuestion (length i.names) (counts_of c.loop-spot.counted) (counts_of c.look-in-None-get.new.self) base (i.looks base h) c.in-Some-look-2.ensures.counts)
    c.from_residual-in_err-insert-in-None-get.ensures.0

pub returns-in_err-push-in-None-get-clause-counts : goal.returns-in_err-push-in-None-get-clause-counts
returns-in_err-push-in-None-get-clause-counts c =
    let i = c.loop-spot.invariant in
    let p = c.in-Some-zero_size_part.part.now in
    let e = found_shape c.loop-spot.counted.map c.args.counted.now.map p c.in-Some-look-2.definition.now i.same.0 c.in-Some-look-2.ensures.found in
    counted_more c.from_residual-in_err-push-in-None-get.result c.insert-in-None-get.new.self i.state.marks i.gained (sym c.in-None-get.ensures.value) e
    (zero_next (definitions_of c.args.counted.now) p i.state (sym c.in-Some-zero_size_part.ensures.part))
    (λ base h. raised_once_more ZeroQuestion (length i.names) (counts_of c.loop-spot.counted) (counts_of c.look-in-None-get.new.self) base (i.looks base h) c.in-Some-look-2.ensures.counts)
    c.from_residual-in_err-push-in-None-get.ensures.0

pub loop-spot-smaller-in-None-get : goal.loop-spot-smaller-in-None-get
loop-spot-smaller-in-None-get c =
    let i = c.loop-spot.invariant in
    let C = definitions_of c.args.counted.now in
    let p = c.in-Some-zero_size_part.part.now in
    let e = found_shape c.loop-spot.counted.map c.args.counted.now.map p c.in-Some-look-2.definition.now i.same.0 c.in-Some-look-2.ensures.found in
    let few = few_more c.args.counted.now.map.now (λ x k. k) i.state.marks (sym c.in-None-get.ensures.value) e in
    let len = grown c.in_ok-insert-in-None-get.field-0 c.in_ok-insert-in-None-get.ensures.len (c.in_ok-insert-in-None-get.ensures.old ∙ sym c.in-None-get.ensures.value) in
    let room : suc (btree_map_len c.loop-spot.table) ≤ btree_map_len c.loop-spot.counted.map.now = omega (arith, few, i.table_len, ap (λ m. btree_map_len m.now) i.same.0) in
    let g : Spot = record { name = c.in-Some-zero_size_part.part; definition = c.in-Some-look-2.definition; next = 0 } in
    let same = ap (λ l. rests zero_size_parts l) (last_first c.loop-spot.stack.items c.push.new.self.items c.loop-spot.spot c.in_ok-push-in-None-get.ensures.items) in
    left_pushed zero_size_parts c.loop-spot.counted.map.now c.look-in-None-get.new.self.map.now p (btree_map_len c.loop-spot.table) (btree_map_len c.insert-in-None-get.new.self) g (c.loop-spot.spot ∷ reverse c.loop-spot.stack.items) (reverse c.push.new.self.items) (c.at-spot-in-None-get.result ∷ reverse c.push.new.self.items) (ap (λ m. m.now) c.in-Some-look-2.ensures.same.0) len room (sym c.in-Some-look-2.ensures.found) refl (omega (arith, same)) (ap (λ f. f ∷ reverse c.push.new.self.items) c.at-spot-in-None-get.ensures)

pub loop-spot-preserved-in-None-get : goal.loop-spot-preserved-in-None-get
loop-spot-preserved-in-None-get c =
    let i = c.loop-spot.invariant in
    let C = definitions_of c.args.counted.now in
    let p = c.in-Some-zero_size_part.part.now in
    let e = found_shape c.loop-spot.counted.map c.args.counted.now.map p c.in-Some-look-2.definition.now i.same.0 c.in-Some-look-2.ensures.found in
    let none = sym c.in-None-get.ensures.value in
    let u = updated_by p c.loop-spot.table c.insert-in-None-get.new.self false c.in_ok-insert-in-None-get.ensures.updates in
    let len = grown c.in_ok-insert-in-None-get.field-0 c.in_ok-insert-in-None-get.ensures.len (c.in_ok-insert-in-None-get.ensures.old ∙ none) in
    let g : Spot = record { name = c.in-Some-zero_size_part.part; definition = c.in-Some-look-2.definition; next = 0 } in
    let back = last_first c.loop-spot.stack.items c.push.new.self.items c.loop-spot.spot c.in_ok-push-in-None-get.ensures.items in
    let s = zero_push C {g = g} i.state (sym c.in-Some-zero_size_part.ensures.part) none e u refl in
    record {
      names = p ∷ i.names;
      state = subst (λ l. ZeroState C c.args.name.now (mark_of c.insert-in-None-get.new.self) l c.at-spot-in-None-get.result (p ∷ i.names)) (sym back) (subst (λ f. ZeroState C c.args.name.now (mark_of c.insert-in-None-get.new.self) (c.loop-spot.spot ∷ reverse c.loop-spot.stack.items) f (p ∷ i.names)) (sym c.at-spot-in-None-get.ensures) s);
      gained = gained_more u i.gained (zero_next C p i.state (sym c.in-Some-zero_size_part.ensures.part));
      looks = λ base h. raised_once_more ZeroQuestion (length i.names) (counts_of c.loop-spot.counted) (counts_of c.look-in-None-get.new.self) base (i.looks base h) c.in-Some-look-2.ensures.counts;
      same = (c.in-Some-look-2.ensures.same.0 ∙ i.same.0, c.in-Some-look-2.ensures.same.1 ∙ i.same.1);
      table_len = len ∙ ap (λ k. suc k) i.table_len;
      stay = λ x k. still u x (i.stay x k);
      name_marked = still u c.args.name.now i.name_marked;
    }

pub returns-in_err-insert-in-None-clause-counts : goal.returns-in_err-insert-in-None-clause-counts
returns-in_err-insert-in-None-clause-counts c =
    let i = c.loop-spot.invariant in
    counted_names _ c.insert-in-None.new.self i.state.marks i.gained i.looks (on_err _ c.from_residual-in_err-insert-in-None.result c.from_residual-in_err-insert-in-None.ensures.0)

pub loop-spot-smaller : goal.loop-spot-smaller
loop-spot-smaller c =
    let i = c.loop-spot.invariant in
    let C = definitions_of c.args.counted.now in
    let len = kept c.in_ok-insert-in-None.field-0 c.in_ok-insert-in-None.ensures.len (λ h. (i.state.marks.looked c.loop-spot.spot.name.now (i.state.inside c.loop-spot.spot.name.now first)).0 (sym c.in_ok-insert-in-None.ensures.old ∙ h)) in
    let items = last_first c.pop.new.self.items c.loop-spot.stack.items c.in-Some-pop.above c.in-Some-pop.ensures.items in
    left_popped zero_size_parts c.loop-spot.counted.map.now (btree_map_len c.loop-spot.table) (btree_map_len c.insert-in-None.new.self) c.loop-spot.spot (c.in-Some-pop.above ∷ reverse c.pop.new.self.items) (c.loop-spot.spot ∷ reverse c.loop-spot.stack.items) len (ap (λ l. c.loop-spot.spot ∷ l) items) i.state.ok.low

pub loop-spot-preserved : goal.loop-spot-preserved
loop-spot-preserved c =
    let i = c.loop-spot.invariant in
    let C = definitions_of c.args.counted.now in
    let len = kept c.in_ok-insert-in-None.field-0 c.in_ok-insert-in-None.ensures.len (λ h. (i.state.marks.looked c.loop-spot.spot.name.now (i.state.inside c.loop-spot.spot.name.now first)).0 (sym c.in_ok-insert-in-None.ensures.old ∙ h)) in
    let u = updated_by c.loop-spot.spot.name.now c.loop-spot.table c.insert-in-None.new.self true c.in_ok-insert-in-None.ensures.updates in
    let items = last_first c.pop.new.self.items c.loop-spot.stack.items c.in-Some-pop.above c.in-Some-pop.ensures.items in
    let s = subst (λ l. ZeroState C c.args.name.now (mark_of c.loop-spot.table) l c.loop-spot.spot i.names) items i.state in
    record {
      names = i.names;
      state = zero_pop C s (some_is _ c.if-never_zero.ensures) (sym c.in-None.ensures.part) u;
      gained = gained_more u i.gained (zero_last C i.state);
      looks = i.looks;
      same = (i.same.0, i.same.1);
      table_len = len ∙ i.table_len;
      stay = λ x k. still u x (i.stay x k);
      name_marked = still u c.args.name.now i.name_marked;
    }

pub returns-in-None-pop-clause-answer : goal.returns-in-None-pop-clause-answer
returns-in-None-pop-clause-answer c =
    let i = c.loop-spot.invariant in
    let C = definitions_of c.args.counted.now in
    let u = updated_by c.loop-spot.spot.name.now c.loop-spot.table c.insert-in-None.new.self true c.in_ok-insert-in-None.ensures.updates in
    let none = nil_from_length c.loop-spot.stack.items (omega (arith, c.in-None-pop.ensures.cases.0, c.loop-spot.stack.ok.0)) in
    let s = subst (λ l. ZeroState C c.args.name.now (mark_of c.loop-spot.table) (reverse l) c.loop-spot.spot i.names) none i.state in
    let r = zero_end C s (some_is _ c.if-never_zero.ensures) (sym c.in-None.ensures.part) u in
    ((λ e. r.0), λ z. refl)

pub returns-in-None-pop-clause-table : goal.returns-in-None-pop-clause-table
returns-in-None-pop-clause-table c =
    let i = c.loop-spot.invariant in
    let C = definitions_of c.args.counted.now in
    let len = kept c.in_ok-insert-in-None.field-0 c.in_ok-insert-in-None.ensures.len (λ h. (i.state.marks.looked c.loop-spot.spot.name.now (i.state.inside c.loop-spot.spot.name.now first)).0 (sym c.in_ok-insert-in-None.ensures.old ∙ h)) in
    let u = updated_by c.loop-spot.spot.name.now c.loop-spot.table c.insert-in-None.new.self true c.in_ok-insert-in-None.ensures.updates in
    let none = nil_from_length c.loop-spot.stack.items (omega (arith, c.in-None-pop.ensures.cases.0, c.loop-spot.stack.ok.0)) in
    let s = subst (λ l. ZeroState C c.args.name.now (mark_of c.loop-spot.table) (reverse l) c.loop-spot.spot i.names) none i.state in
    let r = zero_end C s (some_is _ c.if-never_zero.ensures) (sym c.in-None.ensures.part) u in
    record { names = i.names; marks = r.3; len = len ∙ i.table_len; zero_is = r.1; not_zero_is = r.2 }

pub returns-in-None-pop-clause-marked : goal.returns-in-None-pop-clause-marked
returns-in-None-pop-clause-marked c =
    let i = c.loop-spot.invariant in
    let C = definitions_of c.args.counted.now in
    let u = updated_by c.loop-spot.spot.name.now c.loop-spot.table c.insert-in-None.new.self true c.in_ok-insert-in-None.ensures.updates in
    ((λ x k. still u x (i.stay x k)), λ d. still u c.args.name.now i.name_marked)

pub returns-in-None-pop-clause-counts : goal.returns-in-None-pop-clause-counts
returns-in-None-pop-clause-counts c =
    let i = c.loop-spot.invariant in
    let C = definitions_of c.args.counted.now in
    let len = kept c.in_ok-insert-in-None.field-0 c.in_ok-insert-in-None.ensures.len (λ h. (i.state.marks.looked c.loop-spot.spot.name.now (i.state.inside c.loop-spot.spot.name.now first)).0 (sym c.in_ok-insert-in-None.ensures.old ∙ h)) in
    let u = updated_by c.loop-spot.spot.name.now c.loop-spot.table c.insert-in-None.new.self true c.in_ok-insert-in-None.ensures.updates in
    let marks = marks_again i.state.marks u (i.state.inside c.loop-spot.spot.name.now first) in
    counted_names _ c.insert-in-None.new.self marks (gained_more u i.gained (zero_last C i.state)) i.looks (sym (len ∙ i.table_len), in_names marks)
