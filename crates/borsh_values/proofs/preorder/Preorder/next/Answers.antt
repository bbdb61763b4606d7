use Rattle.std.proofs.Common.{◌≡◌, ◌∙◌, ◌-◌, ◌++◌, ℕ, List, Bor, ap, length, refl, subst, take}
use Rattle.std.proofs.Math.Logic.{∥∥₁_elim}
use Rattle.std.specs.Coded.{le_prop}
use Rattle.std.specs.Prelude.{Option, option_to_list}
use Rattle.borsh_plan.specs.declared.plan.Plan.{Plan}
use Rattle.borsh_values.specs.Cursor.{Happens, name_in}
use Rattle.borsh_values.specs.Nodes.{IsStep}
use Rattle.borsh_values.specs.Preorder.{level_of}
use Rattle.borsh_values.specs.declared.{faults.Path.Path, faults.PathStep.PathStep, frames.Frame.Frame}
use Rattle.borsh_values.proofs.Stepping.{given, goes_on, none_left, none_yet, undecided}
use Rattle.borsh_values.proofs.preorder.Preorder.next.Goals as goal
use Rattle.borsh_values.proofs.preorder.Preorder.next.Goals.{in-Fault, in-Fault-2}

-- the step from a frame's value
abbrev LeadsBy : Plan → List ℕ → Frame → Option PathStep → Type 0
LeadsBy l bytes f step = let k = level_of l bytes f in IsStep k.0 k.1 (length k.2) step

pub returns-in-Open-clause-gives : goal.returns-in-Open-clause-gives
returns-in-Open-clause-gives c =
    let now = c.loop-at.self.cursor in
    let new = c.step_inside.new.self in
    let at = c.in-Open.at in
    let e = c.in_ok-at.ensures in
    let b = subst (λ e. Happens now new e) c.in-Open.is e.happens in
    let full = e.full _ _ _ c.in-Open.is in
    let old = c.args.self.now in
    let step = c.next_step-step.result in
    let leads = subst (λ (f : Frame). LeadsBy now.plan.now now.bytes.now f step) c.around-around.ensures (subst (λ (b : Bor (List ℕ)). LeadsBy now.plan.now b.now c.around-around.result step) e.stays.1 c.next_step-step.ensures) in
    let path = subst (λ (p : Path). c.lead_on.new.path.steps.items ≡ take (c.depth-depth.result - 1) p.steps.items ++ option_to_list step) c.loop-at.invariant.path c.in_ok-lead_on-in-Open.ensures.steps in
    given old _ now c.loop-at.invariant.none c.loop-at.self.inside e.stays _ b.0 c.name.ensures c.offset-offset.ensures full c.depth-depth.ensures step leads path

pub loop-at-preserved : goal.loop-at-preserved
loop-at-preserved c =
    let e = c.in_ok-at.ensures in
    let none = goes_on c.args.self.now.cursor c.loop-at.self.cursor c.loop-at.invariant.none c.loop-at.self.inside c.step_inside.new.self e.stays c.in_ok-at.field-0 e.happens e.shows c.in-Pass.is in
    record { none = none; path = c.loop-at.invariant.path }

pub returns-in-End-clause-gives : goal.returns-in-End-clause-gives
returns-in-End-clause-gives c =
    let now = c.loop-at.self.cursor in
    let b = subst (λ e. Happens now c.step_inside.new.self e) c.in-End.is c.in_ok-at.ensures.happens in
    none_left c.args.self.now.cursor now c.loop-at.invariant.none c.loop-at.self.inside b.1

pub returns-in-Fault-clause-reason : goal.returns-in-Fault-clause-reason
returns-in-Fault-clause-reason c =
    let now = c.loop-at.self.cursor in
    let e = c.in_ok-at.ensures in
    let go = undecided c.args.self.now.cursor now c.loop-at.invariant.none c.loop-at.self.inside c.step_inside.new.self e.stays c.in_ok-at.field-0 e.happens e.shows in
    elim c.in-Fault-1.branch [
      | in-Fault w ↦ go w.in-Fault.at w.in-Fault.is c.name-in-Fault.result.now (c.name-in-Fault.ensures ∙ ap (λ at. name_in now at) w.at-is)
      | in-Fault-2 w ↦ go w.in-Fault.at w.in-Fault.is c.name-in-Fault.result.now (c.name-in-Fault.ensures ∙ ap (λ at. name_in now at) w.at-is)
    ]

pub loop-at-init : goal.loop-at-init
loop-at-init c = record { none = none_yet c.args.self.now.cursor; path = refl }

pub offset-offset-requires : goal.offset-offset-requires
offset-offset-requires c = ∥∥₁_elim c.loop-at.self.inside le_prop λ v. v.cursor.within
