use Rattle.std.proofs.Common.{◌≡◌, ◌∙◌, ◌∷◌, None, Some, ap, false, inl, inr, length}
use Rattle.std.proofs.Math.Logic.{∥∥₁_elim}
use Rattle.std.specs.Coded.{le_prop}
use Rattle.std.specs.Prelude.{MatchOption, Option, is_some}
use Rattle.borsh_walks.proofs.Spots.{last_first}
use Rattle.borsh_values.specs.declared.frames.Step.{Step}
use Rattle.borsh_values.specs.declared.cursor.Cursor.{Cursor}
use Rattle.borsh_values.specs.Cursor.{frames}
use Rattle.borsh_values.proofs.Stepping.{begun, cursor_on, cursor_past}
use Rattle.borsh_values.proofs.Walk.{with_rest}
use Rattle.borsh_values.proofs.cursor.Cursor.open.Goals as goal
use Rattle.borsh_values.proofs.cursor.Cursor.open.Goals.{then-is_some+in_ok-push, else-is_some}

none_next : {A : Type 0} (B : Step → Type 0) (o : Option Step) → MatchOption o A B → false ≡ is_some o → A
none_next B None h e = h
none_next B (Some s) h e = cc

pub returns-clause-cursor : goal.returns-clause-cursor
returns-clause-cursor c = λ i.
    let k = c.args.self.now in
    let d = c.args.definition.now in
    let a = c.after-left.result in
    let moved : Cursor → Cursor = λ q. record q { left = a; idle = 0 } in
    let new = moved c.if-is_some.self in
    elim c.if-is_some.branch [
      | then-is_some+in_ok-push w ↦ (cursor_on k i c.args.step c.requires.step d c.args.own c.args.parts c.requires.opens c.requires.some a c.after-left.ensures w.push.new.self (last_first k.stack.items w.push.new.self.items (with_rest k.frame c.args.step.others) w.in_ok-push.ensures.items) new (ap moved w.self-is)).0
      | else-is_some w ↦ (cursor_past k i c.args.step c.requires.step d c.args.own c.args.parts c.requires.opens c.requires.some a c.after-left.ensures (none_next _ c.next_part.result c.next_part.ensures w.if-is_some.ensures) new (ap moved w.self-is)).0
    ]

pub returns-clause-happens : goal.returns-clause-happens
returns-clause-happens c =
    let k = c.args.self.now in
    let d = c.args.definition.now in
    let a = c.after-left.result in
    let moved : Cursor → Cursor = λ q. record q { left = a; idle = 0 } in
    let new = moved c.if-is_some.self in
    let opened = begun k c.args.step c.requires.step d c.args.own c.args.parts c.requires.opens new c.front-bytes.result.now c.front-bytes.ensures c.after-left.ensures in
    elim c.if-is_some.branch [
      | then-is_some+in_ok-push w ↦
          let es = last_first k.stack.items w.push.new.self.items (with_rest k.frame c.args.step.others) w.in_ok-push.ensures.items in
          (opened (inl (ap (λ q. frames (moved q)) w.self-is ∙ ap (λ q. record { at = c.args.step.at; start = length k.left.now; rest = c.args.parts } ∷ q) es)), ∥∥₁_elim c.requires.cursor le_prop λ i. (cursor_on k i c.args.step c.requires.step d c.args.own c.args.parts c.requires.opens c.requires.some a c.after-left.ensures w.push.new.self es new (ap moved w.self-is)).1)
      | else-is_some w ↦
          let none = none_next _ c.next_part.result c.next_part.ensures w.if-is_some.ensures in
          (opened (inr (none, ap (λ q. frames (moved q)) w.self-is)), ∥∥₁_elim c.requires.cursor le_prop λ i. (cursor_past k i c.args.step c.requires.step d c.args.own c.args.parts c.requires.opens c.requires.some a c.after-left.ensures none new (ap moved w.self-is)).1)
    ]
