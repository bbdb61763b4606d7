use Rattle.std.proofs.Common.{rules, ◌≡◌, inr, [], Ok, Err, IfErr, true, false, ap, ◌∙◌, subst, sym}
use Rattle.borsh_plan.specs.Plan.{definitions_of, root_of}
use Rattle.borsh_values.specs.Records.{Advances, ahead, source_of, IsFirst}
use Rattle.borsh_tool_commands.specs.Many.{FailsBy, StopsCounting, rest_of}
use Rattle.borsh_tool_commands.proofs.StopLaws.{stop-led}
use Rattle.borsh_tool_commands.proofs.ManyLaws.{ahead-begins, left-of, count-begins, count-ended, count-ends, count-fails, count-more}
use Rattle.borsh_tool_commands.proofs.many.count_records.Goals as goal

pub loop-count-init : goal.loop-count-init
loop-count-init g c =
    let l = c.args.many.now.json.now.plan.now in
    let r = c.in_ok-records.records in
    record {
      plan = c.in_ok-records.ensures.same.0;
      limit = c.in_ok-records.ensures.same.1;
      so_far = count-begins (definitions_of l) (root_of l) (g.R.Read.stream c.args.input).bytes (g.R.Read.stream (source_of r)).bytes (ahead r) (ap (λ s. (g.R.Read.stream s).bytes) c.in_ok-records.ensures.first.0) c.in_ok-records.ensures.first.1;
    }

pub loop-count-preserved : goal.loop-count-preserved
loop-count-preserved g c =
    let l = c.args.many.now.json.now.plan.now in
    let old = c.loop-count.records in
    let new = c.advance.new.self in
    let a : Advances (definitions_of old.plan.now) (root_of old.plan.now) g.R.Read.stream old new (Ok true) = search rules in
    let b = subst (λ k. Advances (definitions_of k.now) (root_of k.now) g.R.Read.stream old new (Ok true)) c.loop-count.invariant.plan a in
    record {
      plan = c.advance.ensures.same.0 ∙ c.loop-count.invariant.plan;
      limit = c.advance.ensures.same.1 ∙ c.loop-count.invariant.limit;
      so_far = count-more (definitions_of l) (root_of l) (g.R.Read.stream c.args.input).bytes g.R.Read.stream old new c.loop-count.count c.loop-count.invariant.so_far b;
    }

pub returns-in-Ok-false-clause-ok : goal.returns-in-Ok-false-clause-ok
returns-in-Ok-false-clause-ok g c =
    let l = c.args.many.now.json.now.plan.now in
    let old = c.loop-count.records in
    let new = c.advance.new.self in
    let a : Advances (definitions_of old.plan.now) (root_of old.plan.now) g.R.Read.stream old new (Ok false) = search rules in
    let b = subst (λ k. Advances (definitions_of k.now) (root_of k.now) g.R.Read.stream old new (Ok false)) c.loop-count.invariant.plan a in
    count-ends (definitions_of l) (root_of l) (g.R.Read.stream c.args.input).bytes g.R.Read.stream old new c.loop-count.count c.loop-count.invariant.so_far b c.in_ok-counted-in-Ok-false.ensures

pub returns-in_err-records-clause-err : goal.returns-in_err-records-clause-err
returns-in_err-records-clause-err g c =
    let l = c.args.many.now.json.now.plan.now in
    let bytes = (g.R.Read.stream c.args.input).bytes in
    let x = c.in_err-records.field-0.0 in
    let e : c.from_residual.result ≡ Err x = search rules in
    subst (λ r. IfErr r (StopsCounting (FailsBy g.R.Read.stream) c.args.many.now.path.now l bytes)) (sym e)
    (stop-led c.args.many.now.path.now (λ y u. absurd u) (λ n. ([], rest_of bytes, left-of (IsFirst (definitions_of l) (root_of l)) bytes bytes [] [] (ahead-begins (IsFirst (definitions_of l) (root_of l)) bytes), inr n)) (λ u. u) x c.in_err-records.ensures.err)

pub returns-in-Err-clause-ok : goal.returns-in-Err-clause-ok
returns-in-Err-clause-ok g c =
    let l = c.args.many.now.json.now.plan.now in
    let old = c.loop-count.records in
    let new = c.advance.new.self in
    let e = c.in-Err.error in
    let a : Advances (definitions_of old.plan.now) (root_of old.plan.now) g.R.Read.stream old new (Err e) = search rules in
    let b = subst (λ k. Advances (definitions_of k.now) (root_of k.now) g.R.Read.stream old new (Err e)) c.loop-count.invariant.plan a in
    count-ended (definitions_of l) (root_of l) (g.R.Read.stream c.args.input).bytes g.R.Read.stream old new c.loop-count.count c.loop-count.invariant.so_far c.args.many.now.path.now e c.ended.result b c.ended.ensures

pub returns-in-Err-clause-err : goal.returns-in-Err-clause-err
returns-in-Err-clause-err g c =
    let l = c.args.many.now.json.now.plan.now in
    let old = c.loop-count.records in
    let new = c.advance.new.self in
    let e = c.in-Err.error in
    let a : Advances (definitions_of old.plan.now) (root_of old.plan.now) g.R.Read.stream old new (Err e) = search rules in
    let b = subst (λ k. Advances (definitions_of k.now) (root_of k.now) g.R.Read.stream old new (Err e)) c.loop-count.invariant.plan a in
    count-fails (definitions_of l) (root_of l) (g.R.Read.stream c.args.input).bytes g.R.Read.stream old new c.loop-count.count c.loop-count.invariant.so_far c.args.many.now.path.now e c.ended.result c.loop-count.invariant.limit b c.ended.ensures
