use Rattle.std.proofs.Common.{◌≡◌, ◌++◌, [], Option, ℕ, sym, subst, ap, Result, Ok, Err, OnOk, Bool, Vec, Global}
use Rattle.borsh_plan.specs.Plan.{map_of, names_of as plan_names}
use Rattle.borsh_json.specs.{declared.error.PartError.{PartError}, declared.opening.Frame.{Frame}, Forms.{forms_in}, Frames.{HasPath, IsFound, steps_at}}
use Rattle.borsh_json.proofs.ReadingLaws.{around_map, around_here, next_stands, leaf_inside, part_unread, frame_read}
use Rattle.borsh_json.proofs.parts.Reading.open.Goals as goal

same_items : (r : Result Bool PartError) (a b : Vec ℕ Global) → OnOk r (a ≡ b) → OnOk r (a.items ≡ b.items)
same_items (Ok x) a b p = ap (λ v. v.items) p
same_items (Err e) a b p = tt

pub returns-in-Some : goal.returns-in-Some
returns-in-Some c root j b =
    let F = forms_in (map_of c.args.json.now.plan.now) in
    let ns = plan_names c.args.json.now.plan.now in
    let e = c.enter.ensures in
    frame_read c.args.json.now root j c.args.self.now c.enter.new.self c.args.at c.args.part c.in-Some.frame c.open_part.new.out.items b (λ y i at begins. let o = c.in-Ok.ensures y i at begins in (o.0, o.1, subst (λ (f : Option Frame). IsFound F ns y i o.0 f) c.in-Some.is o.2)) c.enter.result e.more e.frame e.outer (same_items c.enter.result c.enter.new.self.out c.open_part.new.out e.same) e.root e.full e.path

pub returns-in-None : goal.returns-in-None
returns-in-None c root j b =
    let old = c.args.self.now in
    let F = forms_in (map_of c.args.json.now.plan.now) in
    let ns = plan_names c.args.json.now.plan.now in (
      b.0,
      around_map F ns root j old.position.outer.items old.outer.items 0 [] [] root j (λ d path before x i h.
          let o = c.in-Ok.ensures h.0 h.1 h.2 h.3 in
          leaf_inside F ns root j old.position.place old.source old.out.items c.open_part.new.out.items o.0 h.0 h.1 d path before x i o.1 (subst (λ (f : Option Frame). IsFound F ns h.0 h.1 o.0 f) c.in-None.is o.2) h.4) b.1,
    )

pub returns-in-Err : goal.returns-in-Err
returns-in-Err c root j b =
    let old = c.args.self.now in
    let F = forms_in (map_of c.args.json.now.plan.now) in
    let ns = plan_names c.args.json.now.plan.now in
    let p = old.position.place in
    let base = old.position.root.now in
    let h = around_here F ns root j old.position.outer.items old.outer.items 0 [] [] root j b.1 in
    let g = h.7 in
    let t = next_stands F ns root j p old.source old.out.items g.0 g.1 h.0 h.1 h.2 h.3 h.4 g.4 in
    part_unread F ns root j (h.1 ++ steps_at p) old.out.items g.0 g.1 h.0 t c.in-Err.error c.refused_part.result base b.0 c.refused_part.ensures.same (subst (λ l. HasPath base (l ++ steps_at p) c.refused_part.result) (sym h.6) c.refused_part.ensures.path) (c.in-Err.ensures g.0 g.1 g.2 g.3)
