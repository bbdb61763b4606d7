use Rattle.std.proofs.Math.Logic.{∥∥₁_map}
use Rattle.borsh_values.proofs.Stepping.{cursor_skip, next_fits, none_full, skips, still_inside, zero_next}
use Rattle.borsh_values.proofs.cursor.Cursor.step_inside.Goals as goal

pub returns-in_default-clause-full : goal.returns-in_default-clause-full
returns-in_default-clause-full c = none_full c.args.self.now c.close.new.self c.close.result c.in_default.ensures c.close.ensures.happens

pub returns-then-is_zero-clause-inside : goal.returns-then-is_zero-clause-inside
returns-then-is_zero-clause-inside c =
    let k = c.args.self.now in
    let s = c.in-Some.step in
    let zero = (c.is_zero.ensures c.in-Some.ensures.within).0 c.if-is_zero.true in
    ∥∥₁_map c.requires λ v. record { cursor = cursor_skip k v.cursor s c.in-Some.ensures c.after_copies-self.result c.after_copies-self.ensures (zero_next k v.cursor s c.in-Some.ensures v.member zero); member = v.member }

pub returns-then-is_zero-clause-happens : goal.returns-then-is_zero-clause-happens
returns-then-is_zero-clause-happens c = skips c.args.self.now c.in-Some.step c.in-Some.ensures (∥∥₁_map c.requires λ v. v.cursor) c.after_copies-self.result c.after_copies-self.ensures

pub returns-then-is_zero-clause-shows : goal.returns-then-is_zero-clause-shows
returns-then-is_zero-clause-shows c = λ v. zero_next c.args.self.now v.cursor c.in-Some.step c.in-Some.ensures v.member ((c.is_zero.ensures c.in-Some.ensures.within).0 c.if-is_zero.true)

pub next_part-requires : goal.next_part-requires
next_part-requires c = record { fits = next_fits c.args.self.now (∥∥₁_map c.requires λ v. v.cursor) }

pub begin-requires-clause-cursor : goal.begin-requires-clause-cursor
begin-requires-clause-cursor c = ∥∥₁_map c.requires λ v. v.cursor

pub close-requires-clause-cursor : goal.close-requires-clause-cursor
close-requires-clause-cursor c = ∥∥₁_map c.requires λ v. v.cursor

pub returns-in_default-clause-inside : goal.returns-in_default-clause-inside
returns-in_default-clause-inside c = ∥∥₁_map c.requires λ v. still_inside c.args.self.now c.close.new.self c.close.ensures.stays v (c.close.ensures.cursor v.cursor)

pub returns-clause-inside : goal.returns-clause-inside
returns-clause-inside c = ∥∥₁_map c.requires λ v. still_inside c.args.self.now c.begin.new.self c.begin.ensures.stays v (c.begin.ensures.cursor v.cursor)
