use Rattle.std.proofs.Common.{rules, inl, inr, ℕ, List, ◌≡◌, ◌++◌, Ok, Err, true, false, refl, sym, ap, ◌∙◌, subst}
use Rattle.borsh_plan.specs.Plan.{definitions_of, map_of, root_of}
use Rattle.borsh_values.specs.Records.{IsFirst, Advances, ahead, source_of, value_of}
use Rattle.borsh_values.proofs.RecordLaws.{falls-on}
use Rattle.borsh_tool_commands.specs.declared.failure.Failure.{Failure}
use Rattle.borsh_tool_commands.specs.declared.failure.Failure.TheVariants.{OutOfMemory}
use Rattle.borsh_json.specs.declared.output.Layout.TheVariants.{Compact}
use Rattle.borsh_tool_commands.specs.Json.{IsJsonLine}
use Rattle.borsh_tool_commands.specs.Many.{AnswersEach, FailsBy, WritesMade, StopsAtValue, StopsNext, WritesAnswers, rest_of}
use Rattle.borsh_tool_commands.specs.Failures.{IsJsonFailure}
use Rattle.borsh_tool_commands.proofs.ManyLaws.{answered, begins-at, ends, goes_on, stops, stops-anyhow, stops-first, value-stops}
use Rattle.borsh_tool_commands.proofs.StopLaws.{placed-stops, stop-led}
use Rattle.borsh_tool_commands.proofs.many.decode_records.Goals as goal

pub returns-in_err-records : goal.returns-in_err-records
returns-in_err-records g c =
    let l = c.args.many.now.json.now.plan.now in
    let F : List ℕ → List ℕ → List ℕ → Type 0 = IsFirst (definitions_of l) (root_of l) in
    let P : List ℕ → List ℕ → Type 0 = IsJsonLine (map_of l) (root_of l) Compact in
    let S : List ℕ → Failure → Type 0 = StopsAtValue (FailsBy g.R.Read.stream) c.args.many.now.path.now l in
    let bytes = (g.R.Read.stream c.args.input).bytes in
    let x = c.in_err-records.field-0.0 in
    let e : c.from_residual.result ≡ Err x = search rules in
    subst (λ r. WritesAnswers (AnswersEach F P S bytes) g.W.Write.writing c.args.out.now c.args.out.now c.args.made.now.items r) (sym e)
    (stops-first g.met.W.Write.lawful F P S bytes c.args.out.now c.args.made.now.items x c.requires (λ left. stop-led c.args.many.now.path.now (λ y u. absurd u) (λ n. inr (inl (inr n))) (λ u. u) x c.in_err-records.ensures.err))

pub loop-records-init : goal.loop-records-init
loop-records-init g c =
    let l = c.args.many.now.json.now.plan.now in
    let bytes = (g.R.Read.stream c.args.input).bytes in
    let r = c.in_ok-records.records in
    record {
      plan = c.in_ok-records.ensures.same.0;
      limit = c.in_ok-records.ensures.same.1;
      so_far = begins-at g.met.W.Write.lawful (IsFirst (definitions_of l) (root_of l)) (IsJsonLine (map_of l) (root_of l) Compact) bytes c.args.out.now (g.R.Read.stream (source_of r)).bytes (ahead r) c.args.made.now.items
          (ap (λ s. (g.R.Read.stream s).bytes) c.in_ok-records.ensures.first.0) c.in_ok-records.ensures.first.1 c.requires;
    }

pub returns-in_err-next_record : goal.returns-in_err-next_record
returns-in_err-next_record g c =
    let l = c.args.many.now.json.now.plan.now in
    let F : List ℕ → List ℕ → List ℕ → Type 0 = IsFirst (definitions_of l) (root_of l) in
    let P : List ℕ → List ℕ → Type 0 = IsJsonLine (map_of l) (root_of l) Compact in
    let S : List ℕ → Failure → Type 0 = StopsAtValue (FailsBy g.R.Read.stream) c.args.many.now.path.now l in
    let bytes = (g.R.Read.stream c.args.input).bytes in
    let x = c.in_err-next_record.field-0.0 in
    let e : c.from_residual-in_err-next_record.result ≡ Err x = search rules in
    subst (λ r. WritesAnswers (AnswersEach F P S bytes) g.W.Write.writing c.args.out.now c.next_record.new.out c.next_record.new.made.items r) (sym e)
    (value-stops g.met.W.Write.lawful P (FailsBy g.R.Read.stream) c.args.many.now.path.now l bytes (g.R.Read.stream (source_of c.loop-records.records)) (g.R.Read.stream (source_of c.next_record.new.records)) (Err x) x c.loop-records.invariant.so_far
    (subst (λ k. StopsNext g.R.Read.stream c.args.many.now.path.now k.now c.loop-records.records c.next_record.new.records x) c.loop-records.invariant.plan c.in_err-next_record.ensures.stops) c.in_err-next_record.ensures.flushes (λ u. u))

pub returns-in_err-extend_from_slice-in-Ok : goal.returns-in_err-extend_from_slice-in-Ok
returns-in_err-extend_from_slice-in-Ok g c =
    let l = c.args.many.now.json.now.plan.now in
    let F : List ℕ → List ℕ → List ℕ → Type 0 = IsFirst (definitions_of l) (root_of l) in
    let P : List ℕ → List ℕ → Type 0 = IsJsonLine (map_of l) (root_of l) Compact in
    let S : List ℕ → Failure → Type 0 = StopsAtValue (FailsBy g.R.Read.stream) c.args.many.now.path.now l in
    let bytes = (g.R.Read.stream c.args.input).bytes in
    let e : c.from_residual-in_err-extend_from_slice-in-Ok.result ≡ Err OutOfMemory = search rules in
    let same : c.extend_from_slice.new.self.items ≡ c.next_record.new.made.items = search rules in
    let f = subst (λ m. WritesMade g.W.Write.writing c.loop-records.out c.next_record.new.out c.loop-records.made.items m (Ok c.in_ok-next_record.field-0)) (sym same) c.in_ok-next_record.ensures.flushes in
    subst (λ r. WritesAnswers (AnswersEach F P S bytes) g.W.Write.writing c.args.out.now c.next_record.new.out c.extend_from_slice.new.self.items r) (sym e)
    (stops-anyhow g.met.W.Write.lawful F P S bytes (Ok c.in_ok-next_record.field-0) OutOfMemory c.loop-records.invariant.so_far f (λ u. absurd u) (λ left. tt))

pub loop-records-smaller : goal.loop-records-smaller
loop-records-smaller g c =
    let a = subst (λ b. Advances (definitions_of c.loop-records.records.plan.now) (root_of c.loop-records.records.plan.now) g.R.Read.stream c.loop-records.records c.next_record.new.records (Ok b)) c.if-branch.true c.in_ok-next_record.ensures.advances in
    falls-on _ _ g.R.Read.stream c.loop-records.records c.next_record.new.records (Ok true) a refl

pub loop-records-preserved : goal.loop-records-preserved
loop-records-preserved g c =
    let l = c.args.many.now.json.now.plan.now in
    let F : List ℕ → List ℕ → List ℕ → Type 0 = IsFirst (definitions_of l) (root_of l) in
    let P : List ℕ → List ℕ → Type 0 = IsJsonLine (map_of l) (root_of l) Compact in
    let bytes = (g.R.Read.stream c.args.input).bytes in
    let old = c.loop-records.records in
    let new = c.next_record.new.records in
    let a = subst (λ b. Advances (definitions_of old.plan.now) (root_of old.plan.now) g.R.Read.stream old new (Ok b)) c.if-branch.true c.in_ok-next_record.ensures.advances in
    let b = subst (λ k. Advances (definitions_of k.now) (root_of k.now) g.R.Read.stream old new (Ok true)) c.loop-records.invariant.plan a in
    let f = subst (λ b. WritesMade g.W.Write.writing c.loop-records.out c.next_record.new.out c.loop-records.made.items c.next_record.new.made.items (Ok b)) c.if-branch.true c.in_ok-next_record.ensures.flushes in
    let j = subst (λ v. IsJsonLine (map_of l) (root_of l) Compact v c.in-Ok.line.items) c.value.ensures c.in-Ok.ensures.ok in
    let e : c.extend_from_slice.new.self.items ≡ c.next_record.new.made.items ++ c.in-Ok.line.items = search rules in
    record {
      plan = c.next_record.ensures.same.0 ∙ c.loop-records.invariant.plan;
      limit = c.next_record.ensures.same.1 ∙ c.loop-records.invariant.limit;
      so_far = answered g.met.W.Write.lawful F P bytes (g.R.Read.stream (source_of new)).bytes b.read (ahead new) c.extend_from_slice.new.self.items (value_of new) c.in-Ok.line.items (goes_on g.met.W.Write.lawful F P bytes true c.loop-records.invariant.so_far f) b.lost.bytes (λ more _. b.goes.found refl more) j e;
    }

pub returns-in-Err : goal.returns-in-Err
returns-in-Err g c =
    let l = c.args.many.now.json.now.plan.now in
    let old = c.loop-records.records in
    let new = c.next_record.new.records in
    let a = subst (λ b. Advances (definitions_of old.plan.now) (root_of old.plan.now) g.R.Read.stream old new (Ok b)) c.if-branch.true c.in_ok-next_record.ensures.advances in
    let b = subst (λ k. Advances (definitions_of k.now) (root_of k.now) g.R.Read.stream old new (Ok true)) c.loop-records.invariant.plan a in
    let rest = rest_of (g.R.Read.stream (source_of new)).bytes in
    let no : IsJsonFailure (map_of l) (root_of l) c.args.many.now.path.now (value_of new) c.in-Err.failure = subst (λ v. IsJsonFailure (map_of l) (root_of l) c.args.many.now.path.now v c.in-Err.failure) c.value.ensures c.in-Err.ensures.err in
    stops g.met.W.Write.lawful (IsFirst (definitions_of l) (root_of l)) (IsJsonLine (map_of l) (root_of l) Compact) (StopsAtValue (FailsBy g.R.Read.stream) c.args.many.now.path.now l) (g.R.Read.stream c.args.input).bytes (Ok c.in_ok-next_record.field-0) c.placed.result (g.R.Read.stream (source_of new)).bytes b.read
    c.loop-records.invariant.so_far b.lost.bytes c.in_ok-next_record.ensures.flushes (λ u. absurd u)
    (stop-led c.args.many.now.path.now (λ y u. absurd u) (λ n. inr (inr (value_of new, ahead new ++ rest, b.goes.found refl rest, n))) (λ u. absurd u) c.placed.result (placed-stops c.args.many.now.path.now (λ _. ⊥) _ ⊥ c.in-Err.failure c.placed.result c.placed.ensures no))

pub returns : goal.returns
returns g c =
    let l = c.args.many.now.json.now.plan.now in
    let old = c.loop-records.records in
    let new = c.next_record.new.records in
    let a = subst (λ b. Advances (definitions_of old.plan.now) (root_of old.plan.now) g.R.Read.stream old new (Ok b)) c.if-branch.false c.in_ok-next_record.ensures.advances in
    let b = subst (λ k. Advances (definitions_of k.now) (root_of k.now) g.R.Read.stream old new (Ok false)) c.loop-records.invariant.plan a in
    let f = subst (λ b. WritesMade g.W.Write.writing c.loop-records.out c.next_record.new.out c.loop-records.made.items c.next_record.new.made.items (Ok b)) c.if-branch.false c.in_ok-next_record.ensures.flushes in
    let none = b.goes.none refl in
    ends g.met.W.Write.lawful (IsFirst (definitions_of l) (root_of l)) (IsJsonLine (map_of l) (root_of l) Compact) (StopsAtValue (FailsBy g.R.Read.stream) c.args.many.now.path.now l) (g.R.Read.stream c.args.input).bytes false (g.R.Read.stream (source_of new)).bytes b.read c.loop-records.invariant.so_far b.lost.bytes none.0 none.1 f
