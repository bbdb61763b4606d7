use Rattle.std.proofs.Common.{◌++◌, [], ap, sym, ◌∙◌, subst}
use Rattle.borsh_plan.specs.Plan.{map_of, names_of as plan_names}
use Rattle.borsh_json.specs.{Forms.{forms_in}, Frames.{IsNext, steps_at, steps_through}}
use Rattle.borsh_json.proofs.ReadingLaws.{around_map, around_here, reached, inside_begun, inside_ended, missing_unread, key_unread}
use Rattle.borsh_json.proofs.parts.Reading.read_next.Goals as goal

pub returns-in-Part : goal.returns-in-Part
returns-in-Part c root j r =
    let F = forms_in (map_of c.args.json.now.plan.now) in
    let ns = plan_names c.args.json.now.plan.now in
    let old = c.args.self.now in
    let t = c.take_next.new in
    c.open.ensures root j (
      r.0,
      around_map F ns root j old.position.outer.items old.outer.items 0 [] [] root j (λ d path before x i h.
          let n = subst (λ n. IsNext F ns d x i h.own h.ds t.place t.source old.out.items t.out.items n) c.in-Part.is (c.in-Ok.ensures.next d x i h.own h.ds h.doing) in
          inside_begun F ns root j old.position.place t.place old.source t.source old.out.items t.out.items _ _ d path before x i h n) r.1,
    )

pub returns-in-Missing : goal.returns-in-Missing
returns-in-Missing c root j r =
    let F = forms_in (map_of c.args.json.now.plan.now) in
    let ns = plan_names c.args.json.now.plan.now in
    let old = c.args.self.now in
    let t = c.take_next.new in
    let h = around_here F ns root j old.position.outer.items old.outer.items 0 [] [] root j r.1 in
    let i = h.7 in
    let n = subst (λ n. IsNext F ns h.0 h.3 h.4 i.own i.ds t.place t.source old.out.items t.out.items n) c.in-Missing.is (c.in-Ok.ensures.next h.0 h.3 h.4 i.own i.ds i.doing) in
    let at = reached F ns root j h.0 h.1 h.2 h.3 h.4 i.stands in
    missing_unread F ns root j h.1 h.2 h.3 h.4 at.0 at.1 c.refused.result old.position.root.now (steps_through old.position.outer.items ++ steps_at t.place) n.0 r.0 c.refused.ensures.same c.refused.ensures.path (ap (λ l. l ++ steps_at t.place) (sym h.6) ∙ ap (λ l. h.1 ++ l) n.3) n.1

pub returns-in-End : goal.returns-in-End
returns-in-End c root j r =
    let F = forms_in (map_of c.args.json.now.plan.now) in
    let ns = plan_names c.args.json.now.plan.now in
    let old = c.args.self.now in
    let t = c.take_next.new in
    c.leave.ensures root j (
      r.0,
      around_map F ns root j old.position.outer.items old.outer.items 0 [] [] root j (λ d path before x i h.
          let n = subst (λ n. IsNext F ns d x i h.own h.ds t.place t.source old.out.items t.out.items n) c.in-End.is (c.in-Ok.ensures.next d x i h.own h.ds h.doing) in
          inside_ended F ns root j old.position.place t.place old.source t.source old.out.items t.out.items d path before x i h c.take_next.ensures.parts n) r.1,
    )

pub returns-in-Err : goal.returns-in-Err
returns-in-Err c root j r =
    let F = forms_in (map_of c.args.json.now.plan.now) in
    let ns = plan_names c.args.json.now.plan.now in
    let old = c.args.self.now in
    let t = c.take_next.new in
    let h = around_here F ns root j old.position.outer.items old.outer.items 0 [] [] root j r.1 in
    let i = h.7 in
    key_unread F ns root j h.0 h.1 h.2 h.3 h.4 i.own i.mid t.out.items i.ds t.place i.stands i.done c.in-Err.error c.unread_key.result old.position.root.now (steps_through old.position.outer.items) r.0 (sym h.6) c.unread_key.ensures.same c.unread_key.ensures.path (c.in-Err.ensures.next h.0 h.3 h.4 i.own i.ds i.doing)
