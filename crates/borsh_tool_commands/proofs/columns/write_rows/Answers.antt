use Rattle.std.proofs.Common.{rules, ◌≡◌, Ok, Err, refl, sym, ap, ◌∙◌, subst}
use Rattle.std.specs.Prelude.{IfErr}
use Rattle.std.specs.Borrow.{Bor}
use Rattle.borsh_plan.specs.declared.plan.Plan.{Plan}
use Rattle.borsh_plan.specs.Plan.{definitions_of, root_of}
use Rattle.borsh_tool_commands.specs.declared.colors.ColoredText.{ColoredText}
use Rattle.borsh_tool_commands.specs.declared.failure.Failure.TheVariants.{OutOfMemory}
use Rattle.borsh_tool_commands.specs.Colored.{IsShowFailure, Paints, has_colors, printed_colors}
use Rattle.borsh_tool_commands.specs.Colors.{IsPainted}
use Rattle.borsh_tool_commands.specs.Many.{WritesMade}
use Rattle.borsh_tool_commands.proofs.Painting.{PaintedSoFar, painted_last, painted_on, painted_start, painted_stop, unwritten_shown}
use Rattle.borsh_tool_commands.proofs.columns.write_rows.Goals as goal
use Rattle.borsh_tool_commands.proofs.columns.write_rows.Goals.{then-as_bytes-ge-ROOM+in_ok-write_made-in-Ok-Some, else-as_bytes-ge-ROOM}

pub returns-in-Err-clause-painted : goal.returns-in-Err-clause-painted
returns-in-Err-clause-painted g c = painted_stop (Err _) _ refl (painted_start g.met.W.Write.lawful c.args.out.now)

pub returns-in-Err-new-clause-painted : goal.returns-in-Err-new-clause-painted
returns-in-Err-new-clause-painted g c = painted_stop (Err _) _ refl (painted_start g.met.W.Write.lawful c.args.out.now)

pub returns-in-Err-next-clause-painted : goal.returns-in-Err-next-clause-painted
returns-in-Err-next-clause-painted g c = painted_stop (Err _) _ refl c.loop.invariant.so_far

pub loop-init : goal.loop-init
loop-init g c =
    let b = c.in-Ok-new.ensures.rows in
    record {
      plan = ap (λ (r : Bor Plan). r.now) b.plan;
      colors = c.new-made.ensures.0;
      so_far = painted_start g.met.W.Write.lawful c.args.out.now;
    }

pub returns-in_err-push_row-in-Ok-Some-clause-painted : goal.returns-in_err-push_row-in-Ok-Some-clause-painted
returns-in_err-push_row-in-Ok-Some-clause-painted g c =
    let r = c.from_residual.result in
    let e : r ≡ Err OutOfMemory = search rules in
    painted_stop r OutOfMemory e c.loop.invariant.so_far

pub returns-in_err-write_made-in-Ok-Some-clause-painted : goal.returns-in_err-write_made-in-Ok-Some-clause-painted
returns-in_err-write_made-in-Ok-Some-clause-painted g c =
    let wr = g.W.Write.writing in
    let x = c.in_err-write_made-in-Ok-Some.field-0.0 in
    let e : c.from_residual-in_err-write_made-in-Ok-Some.result ≡ Err x = search rules in
    let made = c.push_row.new.out in
    let m = subst (λ b. IsPainted b (printed_colors made)) (c.in_ok-push_row-in-Ok-Some.ensures ∙ c.loop.invariant.colors) made.painted in
    let f = subst (λ l. WritesMade wr c.loop.out c.write_made.new.out (printed_colors made) l (Err x)) c.write_made.ensures.none c.in_err-write_made-in-Ok-Some.ensures.flushes in
    subst (λ r. Paints wr c.args.is_colored c.args.out.now c.write_made.new.out r) (sym e) (painted_last g.met.W.Write.lawful (Err x) (Err x) c.loop.invariant.so_far m f (λ u. u))

pub returns-in_err-write_made-in-Ok-Some-clause-err : goal.returns-in_err-write_made-in-Ok-Some-clause-err
returns-in_err-write_made-in-Ok-Some-clause-err g c =
    let l = c.args.plan.now in
    let x = c.in_err-write_made-in-Ok-Some.field-0.0 in
    let e : c.from_residual-in_err-write_made-in-Ok-Some.result ≡ Err x = search rules in
    subst (λ r. IfErr r (IsShowFailure (definitions_of l) (root_of l) c.args.path.now c.args.bytes.now)) (sym e) (λ n. absurd (n c.in_err-write_made-in-Ok-Some.ensures.unwritten))

pub returns-in-Ok-None-clause-painted : goal.returns-in-Ok-None-clause-painted
returns-in-Ok-None-clause-painted g c =
    let made = c.loop.made in
    let r = c.write_made-in-Ok-None.result in
    let m = subst (λ b. IsPainted b (printed_colors made)) c.loop.invariant.colors made.painted in
    let f = subst (λ l. WritesMade g.W.Write.writing c.loop.out c.write_made-in-Ok-None.new.out (printed_colors made) l r) c.write_made-in-Ok-None.ensures.none c.write_made-in-Ok-None.ensures.flushes in
    painted_last g.met.W.Write.lawful r r c.loop.invariant.so_far m f (λ u. u)

pub returns-in-Ok-None-clause-err : goal.returns-in-Ok-None-clause-err
returns-in-Ok-None-clause-err g c =
    let l = c.args.plan.now in
    unwritten_shown (definitions_of l) (root_of l) c.args.path.now c.args.bytes.now c.write_made-in-Ok-None.result c.write_made-in-Ok-None.ensures.unwritten

pub loop-preserved : goal.loop-preserved
loop-preserved g c =
    let wr = g.W.Write.writing in
    let colored = c.args.is_colored in
    let made = c.push_row.new.out in
    let colors : has_colors made ≡ colored = c.in_ok-push_row-in-Ok-Some.ensures ∙ c.loop.invariant.colors in
    let m = subst (λ b. IsPainted b (printed_colors made)) colors made.painted in
    let so_far = c.loop.invariant.so_far in
    let kept : PaintedSoFar wr colored c.args.out.now c.if-as_bytes-ge-ROOM.out × (has_colors c.if-as_bytes-ge-ROOM.made ≡ colored) = elim c.if-as_bytes-ge-ROOM.branch [
      | then-as_bytes-ge-ROOM+in_ok-write_made-in-Ok-Some w ↦
          let v = w.in_ok-write_made-in-Ok-Some.field-0 in
          let f = subst (λ l. WritesMade wr c.loop.out w.write_made.new.out (printed_colors made) l (Ok v)) w.write_made.ensures.none w.in_ok-write_made-in-Ok-Some.ensures.flushes in
          (subst (λ o. PaintedSoFar wr colored c.args.out.now o) (sym w.out-is) (painted_on g.met.W.Write.lawful v so_far m f), ap (λ (t : ColoredText). has_colors t) w.made-is ∙ w.write_made.ensures.colored ∙ colors)
      | else-as_bytes-ge-ROOM w ↦
          (subst (λ o. PaintedSoFar wr colored c.args.out.now o) (sym w.out-is) so_far, ap (λ (t : ColoredText). has_colors t) w.made-is ∙ colors)
    ] in
    record { plan = search rules; colors = kept.1; so_far = kept.0 }

pub returns-clause-painted : goal.returns-clause-painted
returns-clause-painted g c = painted_stop (Err _) _ refl c.loop.invariant.so_far
