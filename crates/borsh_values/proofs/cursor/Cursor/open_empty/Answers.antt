use Rattle.std.proofs.Common.{◌+◌, ◌∷◌, ◌≤◌, inl, None, Some, refl, ◌∙◌, ap, arith, get_or, length, subst, suc}
use Rattle.std.proofs.Math.Logic.{∥∥₁_elim}
use Rattle.std.specs.Coded.{le_prop}
use Rattle.std.specs.BTreeMap.{btree_map_len}
use Rattle.borsh_plan.specs.Plan.{map_of}
use Rattle.borsh_values.specs.declared.cursor.Cursor.{Cursor}
use Rattle.borsh_values.specs.Cursor.{KnownAs}
use Rattle.borsh_walks.proofs.Spots.{last_first}
use Rattle.borsh_values.proofs.Stepping.{begun, cursor_skip, has_mark, marked_empty, skips, stopped_again, few_idle, cursor_new, new_moves}
use Rattle.borsh_values.proofs.Walk.{with_rest}
use Rattle.borsh_values.proofs.cursor.Cursor.open_empty.Goals as goal

pub returns-in-Some-Empty-clause-cursor : goal.returns-in-Some-Empty-clause-cursor
returns-in-Some-Empty-clause-cursor c = λ i.
    let k = c.args.self.now in
    let e = subst (λ m. KnownAs (get_or k.marks.items c.args.step.at None) (length k.left.now) (Some m)) c.in-Some-Empty.field-0-is c.in-Some-Empty.ensures in
    cursor_skip k i c.args.step c.requires.step c.after_copies-self.result c.after_copies-self.ensures (marked_empty k i c.args.step c.requires.step e)

pub returns-in-Some-Empty-clause-happens : goal.returns-in-Some-Empty-clause-happens
returns-in-Some-Empty-clause-happens c = skips c.args.self.now c.args.step c.requires.step c.requires.cursor c.after_copies-self.result c.after_copies-self.ensures

pub returns-in-Some-Empty-clause-shows : goal.returns-in-Some-Empty-clause-shows
returns-in-Some-Empty-clause-shows c = λ i.
    let k = c.args.self.now in
    marked_empty k i c.args.step c.requires.step (subst (λ m. KnownAs (get_or k.marks.items c.args.step.at None) (length k.left.now) (Some m)) c.in-Some-Empty.field-0-is c.in-Some-Empty.ensures)

pub returns-in-Some-Open-clause-shows : goal.returns-in-Some-Open-clause-shows
returns-in-Some-Open-clause-shows c = λ i.
    let k = c.args.self.now in
    stopped_again k i c.args.step c.requires.step (subst (λ m. KnownAs (get_or k.marks.items c.args.step.at None) (length k.left.now) (Some m)) c.in-Some-Open.field-0-is c.in-Some-Open.ensures)

pub look_up-requires : goal.look_up-requires
look_up-requires c = has_mark c.args.self.now c.requires.cursor c.args.step.at c.requires.step.within

pub set_mark-requires : goal.set_mark-requires
set_mark-requires c = has_mark c.args.self.now c.requires.cursor c.args.step.at c.requires.step.within

pub overflow_add-self : goal.overflow_add-self
overflow_add-self c =
    let k = c.args.self.now in
    let f : suc k.idle ≤ btree_map_len (map_of k.plan.now) = ∥∥₁_elim c.requires.cursor le_prop λ i. few_idle k i c.args.step c.requires.step c.args.definition.now 0 c.args.parts c.requires.opens refl c.in-None.ensures c.set_mark.new.marks c.set_mark.ensures c.push.new.self (last_first k.stack.items c.push.new.self.items (with_rest k.frame c.args.step.others) c.in_ok-push-in-None.ensures.items) in
    let d = c.len-definitions.ensures.len ∙ ap (λ m. btree_map_len m) c.map.ensures in
    let b = c.len-definitions.ensures.small in
    omega (arith, f, d, b)

pub returns-in_ok-push-in-None-clause-cursor : goal.returns-in_ok-push-in-None-clause-cursor
returns-in_ok-push-in-None-clause-cursor c = λ i.
    let k = c.args.self.now in
    cursor_new k i c.args.step c.requires.step c.args.definition.now 0 c.args.parts c.requires.opens refl c.in-None.ensures c.set_mark.new.marks c.set_mark.ensures c.push.new.self (last_first k.stack.items c.push.new.self.items (with_rest k.frame c.args.step.others) c.in_ok-push-in-None.ensures.items)

pub returns-in_ok-push-in-None-clause-happens : goal.returns-in_ok-push-in-None-clause-happens
returns-in_ok-push-in-None-clause-happens c =
    let k = c.args.self.now in
    let s = c.args.step in
    let ms = c.set_mark.new.marks in
    let st = c.push.new.self in
    let es = last_first k.stack.items st.items (with_rest k.frame s.others) c.in_ok-push-in-None.ensures.items in
    let new : Cursor = record k { marks = ms; stack = st; frame = record { at = s.at; start = length k.left.now; rest = c.args.parts }; idle = k.idle + 1 } in (
      begun k s c.requires.step c.args.definition.now 0 c.args.parts c.requires.opens new c.front.result.now c.front.ensures refl (inl (ap (λ q. new.frame ∷ q) es)),
      ∥∥₁_elim c.requires.cursor le_prop λ i. new_moves k i s c.requires.step c.args.definition.now 0 c.args.parts c.requires.opens refl c.in-None.ensures ms c.set_mark.ensures st es,
    )
