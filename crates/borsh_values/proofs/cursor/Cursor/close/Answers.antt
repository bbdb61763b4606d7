use Rattle.std.proofs.Common.{refl, sym, ◌∙◌, ap, ◌++◌, arith, subst, reverse}
use Rattle.borsh_walks.proofs.Spots.{last_first}
use Rattle.std.proofs.lemmas.List.{nil_from_length}
use Rattle.borsh_plan.specs.Plan.{names_of}
use Rattle.borsh_values.specs.Cursor.{IsCursor, pending}
use Rattle.borsh_values.proofs.Stepping.{cursor_up, cursor_up_empty, frame_marked}
use Rattle.borsh_values.proofs.cursor.Cursor.close.Goals as goal
use Rattle.borsh_values.proofs.cursor.Cursor.close.Goals.{then-self, else-self}

pub returns-after-self-clause-cursor : goal.returns-after-self-clause-cursor
returns-after-self-clause-cursor c = λ i.
    let k = c.args.self.now in
    let es = last_first c.pop.new.self.items k.stack.items c.in-Some.above c.in-Some.ensures.items in
    elim c.if-self.branch [
      | then-self w ↦ subst (λ q. IsCursor (record q { frame = c.in-Some.above })) (sym w.self-is) (cursor_up_empty k i c.requires.none c.in-Some.above c.pop.new.self es w.set_mark.new.marks w.set_mark.ensures w.if-self.true)
      | else-self w ↦ subst (λ q. IsCursor (record q { frame = c.in-Some.above })) (sym w.self-is) (cursor_up k i c.requires.none c.in-Some.above c.pop.new.self es w.if-self.false)
    ]

pub returns-in-None-clause-happens : goal.returns-in-None-clause-happens
returns-in-None-clause-happens c =
    let k = c.args.self.now in
    let ns = (names_of k.plan.now) in
    let e = nil_from_length k.stack.items (omega (arith, c.in-None.ensures.cases.0, k.stack.ok.0)) in
    (refl, ap (λ q. q ++ pending ns (reverse k.stack.items)) c.requires.none ∙ ap (λ q. pending ns (reverse q)) e)

pub set_mark-requires : goal.set_mark-requires
set_mark-requires c = frame_marked c.args.self.now c.requires.cursor
