use Rattle.std.proofs.Common.{◌≡◌, ◌∙◌, List, ℕ, ap, subst, true, false, Bool, Bor}
use Rattle.borsh_plan.specs.{declared.plan.Plan.{Plan}, Plan.{map_of, names_of as plan_names, planned, root_of}}
use Rattle.borsh_json.specs.{Forms.{forms_in}, Frames.{IsReadOn}}
use Rattle.borsh_json.proofs.ReadingLaws.{reading_start}
use Rattle.borsh_json.proofs.parts.read_value.Goals as goal

pub loop-init : goal.loop-init
loop-init c j b =
    let y = c.args.json.now.plan.now in
    let p = c.new-position in
    let at = p.ensures.place in
    (ap (λ (r : Bor (List ℕ)). r.now) p.ensures.root ∙ c.root.ensures ∙ ap (λ (p : Bor Plan). root_of p.now) c.plan.ensures, reading_start (forms_in (map_of y)) (plan_names y) (root_of y) j p.result.place c.args.element p.result.outer.items c.new-outer.result.items c.new-out.result.items (planned y).first b at.0 at.1 p.ensures.outer c.new-outer.ensures.items c.new-out.ensures.items)

pub loop-preserved : goal.loop-preserved
loop-preserved c j b =
    let d = c.args.json.now in
    let root = root_of d.plan.now in
    let t = c.if-not-more.false in
    let e : c.in-Ok.more ≡ true = cc in
    subst (λ (more : Bool). IsReadOn d root j c.read_next.new.self more) e (c.in-Ok.ensures root j (c.loop.invariant j b))

pub returns-then-not-more : goal.returns-then-not-more
returns-then-not-more c j b =
    let d = c.args.json.now in
    let root = root_of d.plan.now in
    let t = c.if-not-more.true in
    let e : c.in-Ok.more ≡ false = cc in
    subst (λ (more : Bool). IsReadOn d root j c.read_next.new.self more) e (c.in-Ok.ensures root j (c.loop.invariant j b))

pub returns-in-Err : goal.returns-in-Err
returns-in-Err c j b = c.in-Err.ensures (root_of c.args.json.now.plan.now) j (c.loop.invariant j b)
