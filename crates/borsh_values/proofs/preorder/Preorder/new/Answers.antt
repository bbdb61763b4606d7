use Rattle.std.proofs.Common.{◌∷◌, ◌∙◌, ap, arith, length, []}
use Rattle.std.specs.Borrow.{Bor}
use Rattle.std.specs.Prelude.{ℕ, List, ◌+◌, map}
use Rattle.borsh_values.specs.declared.{frames.Frame.Frame, frames.Rest.TheVariants.Copies}
use Rattle.borsh_values.specs.Preorder.{level_of}
use Rattle.borsh_values.proofs.Stepping.{root_level}
use Rattle.borsh_plan.specs.declared.plan.Plan.{Plan}
use Rattle.borsh_values.proofs.preorder.Preorder.new.Goals as goal

pub returns-clause-levels : goal.returns-clause-levels
returns-clause-levels c =
    let l = c.args.plan.now in
    let bytes = c.args.bytes.now in
    let first : Frame = record { at = 0; start = length bytes + 1; rest = Copies 0 1 } in
    let e = c.in_ok-cursor.ensures in
    ap (λ fs. map (level_of c.in_ok-cursor.cursor.plan.now c.in_ok-cursor.cursor.bytes.now) fs) e.begins
    ∙ ap (λ (l : Bor Plan). level_of l.now c.in_ok-cursor.cursor.bytes.now first ∷ []) e.plan
    ∙ ap (λ (b : Bor (List ℕ)). level_of l b.now first ∷ []) e.bytes
    ∙ ap (λ l. l ∷ []) (root_level l bytes)

pub returns-clause-offset : goal.returns-clause-offset
returns-clause-offset c =
    let a = ap (λ b. length b.now) c.in_ok-cursor.ensures.bytes in
    let b = ap (λ b. length b.now) c.in_ok-cursor.ensures.left in
    omega (arith, a, b)
