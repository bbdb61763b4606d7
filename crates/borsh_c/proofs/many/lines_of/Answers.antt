use Rattle.std.proofs.Common.{Some, arith, subst, take}
use Rattle.borsh_plan.specs.Plan.{map_of, root_of}
use Rattle.borsh_c.specs.Answers.{Saying}
use Rattle.borsh_c.specs.Many.{AreLines, HaveLines, IsNoLine}
use Rattle.borsh_c.proofs.Records.{by_json, by_plan, line_refused}
use Rattle.borsh_c.proofs.Told.{about_told}
use Rattle.borsh_c.proofs.many.lines_of.Goals as goal

pub returns-then-count-gt0-clause-ok : goal.returns-then-count-gt0-clause-ok
returns-then-count-gt0-clause-ok c =
    let w = c.in_ok-written.written in
    let lengths = c.args.lengths.now in
    let values = c.args.values.now in
    let written : Saying = λ m root. HaveLines c.args.style.long_numbers m root (take w.count lengths) values w.text.items × IsNoLine m root lengths values w.count w.stop in
    let told = by_plan written c.in_ok-plan.plan c.in_ok-plan.ensures (by_json written c.in_ok-json.json c.in_ok-plan.plan c.in_ok-json.ensures (c.in_ok-written.ensures.lines, c.in_ok-written.ensures.stop)) in
    about_told (c.in_ok-root.root, c.in_ok-root.definitions) c.in_ok-root.ensures.ok c.as_str.result.now c.as_str.ensures.value (AreLines c.args.style.long_numbers values lengths w.count w.text.items)
    (record { room = c.in_ok-written.ensures.room; lines = told.0; some = λ h. c.if-count-gt0.true; last = (w.stop, told.1) })

pub returns-in-None-clause-ok : goal.returns-in-None-clause-ok
returns-in-None-clause-ok c =
    let w = c.in_ok-written.written in
    let lengths = c.args.lengths.now in
    let values = c.args.values.now in
    let written : Saying = λ m root. HaveLines c.args.style.long_numbers m root (take w.count lengths) values w.text.items × IsNoLine m root lengths values w.count w.stop in
    let told = by_plan written c.in_ok-plan.plan c.in_ok-plan.ensures (by_json written c.in_ok-json.json c.in_ok-plan.plan c.in_ok-json.ensures (c.in_ok-written.ensures.lines, c.in_ok-written.ensures.stop)) in
    let all = subst (IsNoLine c.in_ok-root.definitions c.as_str.result.now lengths values w.count) c.in-None.is told.1 in
    about_told (c.in_ok-root.root, c.in_ok-root.definitions) c.in_ok-root.ensures.ok c.as_str.result.now c.as_str.ensures.value (AreLines c.args.style.long_numbers values lengths w.count w.text.items)
    (record { room = c.in_ok-written.ensures.room; lines = told.0; some = λ h. omega (arith, all); last = (w.stop, told.1) })

pub returns-clause-err : goal.returns-clause-err
returns-clause-err c =
    let w = c.in_ok-written.written in
    let stop = subst (IsNoLine (map_of c.in_ok-json.json.plan.now) (root_of c.in_ok-json.json.plan.now) c.args.lengths.now c.args.values.now w.count) c.in-Some.is c.in_ok-written.ensures.stop in
    let reason = by_plan (λ m root. IsNoLine m root c.args.lengths.now c.args.values.now w.count (Some c.in-Some.error)) c.in_ok-plan.plan c.in_ok-plan.ensures (by_json (λ m root. IsNoLine m root c.args.lengths.now c.args.values.now w.count (Some c.in-Some.error)) c.in_ok-json.json c.in_ok-plan.plan c.in_ok-json.ensures stop) in
    line_refused (c.in_ok-root.root, c.in_ok-root.definitions) c.in_ok-root.ensures.ok c.as_str.result.now c.as_str.ensures.value c.args.values.now c.args.lengths.now w.count c.in-Some.error c.if-count-gt0.false reason c.in_ok-no_value-in-Some.field-0 (rw c.in-Some.is at c.in_ok-no_value-in-Some.ensures)
