use Rattle.std.proofs.Common.{◌≡◌, ◌∙◌, ◌++◌, ◌-◌, map, drop, ap, arith}
use Rattle.borsh_plan.specs.Names.{name_at, parts_in, shape_at}
use Rattle.borsh_plan.specs.Plan.{names_of}
use Rattle.borsh_compare.specs.Walks.{names_from}
use Rattle.borsh_compare.proofs.Parts.{parts_names}
use Rattle.borsh_compare.proofs.Reading.{open_step}
use Rattle.borsh_compare.proofs.through.open.Goals as goal

pub loop-left-preserved : goal.loop-left-preserved
loop-left-preserved c =
    let p = c.args.plan.now in
    let parts = c.parts-parts.result.now in
    let n = c.loop-left.left in
    let some = c.loop-left-test.true in
    let within = c.loop-left.invariant.within in
    record {
      within = omega (arith, within);
      names = open_step p c.loop-left.names.items c.push.new.self.items c.args.names.now.items parts n (n - 1) c.in_ok-push.ensures.items (omega (arith, some)) (omega (arith, some, within)) c.loop-left.invariant.names;
    }

pub returns : goal.returns
returns c =
    let p = c.args.plan.now in
    let ns = names_of p in
    let init = names_from p c.args.names.now.items in
    let none : c.loop-left.left ≡ 0 = (let h = c.loop-left-test.false in omega (arith, h)) in
    let parts = c.parts-parts.result.now in
    c.loop-left.invariant.names ∙ ap (λ n. map (λ i. name_at ns i) (drop n parts) ++ init) none ∙ ap (λ l. l ++ init) (parts_names ns parts (parts_in (shape_at ns c.args.at)) c.parts-parts.ensures)
