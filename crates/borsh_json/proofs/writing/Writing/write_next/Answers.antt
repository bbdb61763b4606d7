use Rattle.std.proofs.{Common.{◌++◌, ℕ, List, Option, refl, sym, subst}, lemmas.Result.{err_from_is_err_and}}
use Rattle.std.specs.Borrow.{Bor}
use Rattle.borsh_plan.specs.Plan.{root_of}
use Rattle.borsh_json.specs.{declared.error.JsonError.{JsonError}, declared.order.Ascent.{Ascent}, declared.position.Parts.{Parts}, declared.writing.Writing.{Writing}, Leaves.{Adds}, Found.{forms_of}, Frames.{first_steps, steps_through}, InOrder.{Step}, NoJson.{IsOutOfOrder}, Writes.{IsAscending, Stops, StopsBy, ends_of}}
use Rattle.borsh_json.proofs.WriterLaws.{place_ended, begun_still, next_is, next_name, next_falls, rises_so, stops_descends}
use Rattle.borsh_json.proofs.writing.Writing.write_next.Goals as goal

pub returns-in_default-clause-state : goal.returns-in_default-clause-state
returns-in_default-clause-state c =
    let d = c.args.json.now in
    let w = c.args.self.now in
    let p = w.position.place in
    let q = c.next_part.new.self in
    let new : Writing = record { walk = w.walk; position = c.leave.new.self; out = c.write_end.new.out; bytes = w.bytes } in
    place_ended d w new p c.requires c.in_default.ensures.part (subst (λ (k : Parts). Adds (ends_of k) w.out c.write_end.new.out) c.next_part.ensures.same.0 c.in_ok-write_end.ensures) c.leave.ensures.root refl refl c.leave.result c.leave.ensures.left c.leave.ensures.all

pub returns-then-not-is_above-clause-state : goal.returns-then-not-is_above-clause-state
returns-then-not-is_above-clause-state c =
    let d = c.args.json.now in
    let w = c.args.self.now in
    let a = c.requires in
    let s = c.next_part.ensures.same in
    let o = c.ascends.ensures.same in
    let p = w.position.place in
    let q = c.ascends.new.place in
    let b = begun_still d w.walk.offset p c.next_part.new.self c.ascends.new.place c.in-Some.part c.in-Some.ensures.part c.in-Some.ensures.begun s.0 s.1 s.2 o.0 o.1 o.2 c.ascends.ensures.begins in
    let z = next_name d w.walk.offset p c.ascends.new.place c.in-Some.part b a.state.inner a.state.here c.in-Some.part.key refl in
    let h = subst (λ (x : Option Ascent). IsAscending d w.bytes.now x a.mark) (sym s.2) a.here.0 in
    subst (λ (e : JsonError). Stops (forms_of d) (root_of d.plan.now) w.bytes.now e) (sym c.into.ensures) (stops_descends (forms_of d) (root_of d.plan.now) w.bytes.now w.position.root.now a.writer.root (steps_through w.position.outer.items ++ first_steps q.parts q.begun) c.refused_element.result c.refused_element.ensures.same c.refused_element.ensures.path (subst (λ (l : List Step). IsOutOfOrder (forms_of d) (root_of d.plan.now) w.bytes.now l) (next_is d w p w.walk.offset q c.in-Some.part a b) (next_falls d w p a z.0 z.1 z.2 c.in_ok-is_above.is_above c.if-not-is_above.true c.next_part.new.self.ascent h c.in_ok-is_above.ensures.tells)))

pub returns-in_err-write_key-clause-state : goal.returns-in_err-write_key-clause-state
returns-in_err-write_key-clause-state c =
    let d = c.args.json.now in
    let w = c.args.self.now in
    let a = c.requires in
    let s = c.next_part.ensures.same in
    let o = c.ascends.ensures.same in
    let t = rises_so d w w.position.place c.next_part.new.self.ascent c.in_ok-is_above.is_above s.2 c.if-not-is_above.false c.in_ok-is_above.ensures.tells in
    let b = begun_still d w.walk.offset w.position.place c.next_part.new.self c.ascends.new.place c.in-Some.part c.in-Some.ensures.part c.in-Some.ensures.begun s.0 s.1 s.2 o.0 o.1 o.2 c.ascends.ensures.begins in
    let q = c.from_residual-in_err-write_key in
    let r = err_from_is_err_and q.result q.ensures.1 in
    rw (r.1, r.2) (c.in_err-write_key.ensures.key w.position.place (record { writer = record { plan = a.writer.plan; long = a.writer.long; kept = a.writer.kept; tokens = a.writer.tokens; holds = a.writer.holds; offset = a.writer.offset; root = a.writer.root }; mark = a.mark; marks = a.marks; state = a.state; here = a.here; around = a.around }) t b)

pub returns-in_err-write_part-clause-state : goal.returns-in_err-write_part-clause-state
returns-in_err-write_part-clause-state c =
    let d = c.args.json.now in
    let w = c.args.self.now in
    let a = c.requires in
    let s = c.next_part.ensures.same in
    let o = c.ascends.ensures.same in
    let t = rises_so d w w.position.place c.next_part.new.self.ascent c.in_ok-is_above.is_above s.2 c.if-not-is_above.false c.in_ok-is_above.ensures.tells in
    let b = begun_still d w.walk.offset w.position.place c.next_part.new.self c.ascends.new.place c.in-Some.part c.in-Some.ensures.part c.in-Some.ensures.begun s.0 s.1 s.2 o.0 o.1 o.2 c.ascends.ensures.begins in
    let x = c.in_ok-write_key.ensures.key w.position.place (record { writer = record { plan = a.writer.plan; long = a.writer.long; kept = a.writer.kept; tokens = a.writer.tokens; holds = a.writer.holds; offset = a.writer.offset; root = a.writer.root }; mark = a.mark; marks = a.marks; state = a.state; here = a.here; around = a.around }) t b in
    let q = c.from_residual-in_err-write_part in
    let r = err_from_is_err_and q.result q.ensures.1 in
    rw (r.1, r.2) (subst (λ (b : Bor (List ℕ)). StopsBy d b.now c.in_err-write_part.field-0.0) c.write_key.ensures.bytes (c.in_err-write_part.ensures.part x.0 x.1 x.2))

pub returns-clause-state : goal.returns-clause-state
returns-clause-state c =
    let d = c.args.json.now in
    let w = c.args.self.now in
    let a = c.requires in
    let s = c.next_part.ensures.same in
    let o = c.ascends.ensures.same in
    let t = rises_so d w w.position.place c.next_part.new.self.ascent c.in_ok-is_above.is_above s.2 c.if-not-is_above.false c.in_ok-is_above.ensures.tells in
    let b = begun_still d w.walk.offset w.position.place c.next_part.new.self c.ascends.new.place c.in-Some.part c.in-Some.ensures.part c.in-Some.ensures.begun s.0 s.1 s.2 o.0 o.1 o.2 c.ascends.ensures.begins in
    let x = c.in_ok-write_key.ensures.key w.position.place (record { writer = record { plan = a.writer.plan; long = a.writer.long; kept = a.writer.kept; tokens = a.writer.tokens; holds = a.writer.holds; offset = a.writer.offset; root = a.writer.root }; mark = a.mark; marks = a.marks; state = a.state; here = a.here; around = a.around }) t b in
    c.in_ok-write_part.ensures.part x.0 x.1 x.2
