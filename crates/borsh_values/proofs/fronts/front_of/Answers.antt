use Rattle.std.proofs.Common.{Ok, refl, subst}
use Rattle.borsh_plan.specs.Plan.{definitions_of, root_of}
use Rattle.std.specs.Borrow.{Bor}
use Rattle.borsh_plan.specs.declared.plan.Plan.{Plan}
use Rattle.borsh_values.specs.Cursor.{IsAnswerOf, Moves}
use Rattle.borsh_values.specs.Membership.{IsFrontAnswer}
use Rattle.borsh_values.proofs.Stepping.{last_is, moves_on}
use Rattle.borsh_values.proofs.Answers.{fronts}
use Rattle.borsh_values.proofs.fronts.front_of.Goals as goal

pub loop-cursor-smaller : goal.loop-cursor-smaller
loop-cursor-smaller c =
    let answer = subst (λ o. IsAnswerOf c.step.new.self c.in_ok-event.event o) c.in_default.is c.in_ok-front.ensures in
    subst (λ k. Moves k c.step.new.self) (c.if-pass.ensures.same refl) (moves_on c.pass.new.self c.step.new.self c.in_ok-event.event answer c.in_ok-event.ensures.happens)

pub returns-in-Some : goal.returns-in-Some
returns-in-Some c =
    let i = c.loop-cursor.invariant in
    let now = c.pass.new.self in
    let a = c.in-Some.front in
    let answer = subst (λ o. IsAnswerOf c.step.new.self c.in_ok-event.event o) c.in-Some.is c.in_ok-front.ensures in
    let h = last_is now c.step.new.self c.in_ok-event.event a c.if-pass.ensures.cursor c.step.ensures.stays c.in_ok-event.ensures.happens (c.in_ok-event.ensures.shows c.if-pass.ensures.cursor) answer in
    let s = c.if-pass.ensures.stays in
    let on_bytes = subst (λ b. IsFrontAnswer (definitions_of now.plan.now) (root_of now.plan.now) b.now a) s.1 h in
    let on_layout = subst (λ (l : Bor Plan). IsFrontAnswer (definitions_of l.now) (root_of l.now) c.loop-cursor.cursor.bytes.now a) s.0 on_bytes in
    fronts (definitions_of c.args.plan.now) (Ok a) (subst (λ (l : Plan). IsFrontAnswer (definitions_of l) (root_of l) c.args.bytes.now a) i.plan (subst (λ b. IsFrontAnswer (definitions_of c.loop-cursor.cursor.plan.now) (root_of c.loop-cursor.cursor.plan.now) b a) i.bytes on_layout))
