use Rattle.std.proofs.Common.{rules, ◌++◌, refl, Ok, Err, true, false, subst}
use Rattle.std.specs.Prelude.{⊤}
use Rattle.borsh_plan.specs.Plan.{definitions_of, root_of}
use Rattle.std.specs.Io.KnownBytes.{IsAtEnd}
use Rattle.borsh_io.specs.Buffered.{IsUnread}
use Rattle.borsh_values.specs.Records.{Advances, AdvancesHeld, IsRecordError, ahead, plan_of, source_of}
use Rattle.borsh_values.proofs.RecordLaws.{at_hand}
use Rattle.borsh_tool_commands.proofs.ManyLaws.{not-flushed}
use Rattle.borsh_tool_commands.proofs.StopLaws.{none-after, none-held, stop-led}
use Rattle.borsh_tool_commands.proofs.many.next_record.Goals as goal

pub returns-in-Ok-true-clause-advances : goal.returns-in-Ok-true-clause-advances
returns-in-Ok-true-clause-advances g c =
    let l = (plan_of c.args.records.now).now in
    let h : AdvancesHeld (definitions_of l) (root_of l) c.args.records.now c.advance_held.new.self ⊤ ⊥ (Ok true) = search rules in
    at_hand _ _ g.R.Read.stream c.args.records.now c.advance_held.new.self ⊤ ⊥ h

pub returns-in-Ok-true-clause-flushes : goal.returns-in-Ok-true-clause-flushes
returns-in-Ok-true-clause-flushes g c = not-flushed g.met.W.Write.lawful c.args.out.now (Ok true) refl

pub returns-in-Err-clause-flushes : goal.returns-in-Err-clause-flushes
returns-in-Err-clause-flushes g c = not-flushed g.met.W.Write.lawful c.args.out.now (Err c.no_record.result) refl

pub returns-in-Err-clause-stops : goal.returns-in-Err-clause-stops
returns-in-Err-clause-stops g c =
    let old = c.args.records.now in
    let new = c.advance_held.new.self in
    let l = (plan_of old).now in
    let error = c.in-Err.error in
    let h : AdvancesHeld (definitions_of l) (root_of l) old new ⊤ ⊥ (Err error) = search rules in
    stop-led c.args.many.now.path.now (λ e s. absurd (subst (λ r. IsRecordError (definitions_of l) (root_of l) (ahead old) old.next old.limit ⊥ (λ _. ⊥) r) s h.goes.error)) (none-held (definitions_of l) (root_of l) g.R.Read.stream old new error c.requires h) (λ u. absurd u) c.no_record.result
    c.no_record.ensures

pub returns-in-Err-advance-clause-stops : goal.returns-in-Err-advance-clause-stops
returns-in-Err-advance-clause-stops g c =
    let old = c.args.records.now in
    let mid = c.advance_held.new.self in
    let new = c.advance.new.self in
    let l = (plan_of old).now in
    let error = c.in-Err-advance.error in
    let h : AdvancesHeld (definitions_of l) (root_of l) old mid ⊤ ⊥ (Ok false) = search rules in
    let a : Advances (definitions_of (plan_of mid).now) (root_of (plan_of mid).now) g.R.Read.stream mid new (Err error) = search rules in
    let b = subst (λ k. Advances (definitions_of k.now) (root_of k.now) g.R.Read.stream mid new (Err error)) c.advance_held.ensures.same.0 a in
    let X = ahead mid ++ b.read in
    stop-led c.args.many.now.path.now (λ e s. (source_of mid, source_of new, subst (λ r. IsRecordError (definitions_of l) (root_of l) X mid.next mid.limit (IsAtEnd (g.R.Read.stream (source_of new)).bytes) (IsUnread (g.R.Read.stream (source_of mid)) (g.R.Read.stream (source_of new))) r) s b.goes.error))
    (none-after (definitions_of l) (root_of l) g.R.Read.stream old new mid error c.requires c.advance_held.ensures.same.1 h b) (λ u. absurd u) c.no_record-in-Err-advance.result c.no_record-in-Err-advance.ensures
