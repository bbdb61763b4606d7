use Rattle.std.proofs.Common.{rules, ◌≡◌, Err, Ok, subst, sym, refl, true, []}
use Rattle.borsh_plan.specs.Plan.{definitions_of, root_of}
use Rattle.borsh_values.specs.declared.{records.Records.Records, records.RecordError.TheVariants.Reader}
use Rattle.borsh_values.specs.Records.{Advances, AdvancesHeld, ahead}
use Rattle.borsh_values.proofs.RecordLaws.{falls-on, reading-ends, reading-fails}
use Rattle.borsh_values.proofs.records.Records.advance.Goals as goal

pub returns-in_err-find-clause-advances : goal.returns-in_err-find-clause-advances
returns-in_err-find-clause-advances g c =
    let l = c.args.self.now.plan.now in
    let e : c.from_residual.result ≡ Err c.in_err-find.field-0.0 = search rules in
    subst (λ r. Advances (definitions_of l) (root_of l) g.R.Read.stream c.args.self.now c.find.new.self r) (sym e)
    (reading-ends _ _ g.R.Read.stream c.args.self.now c.loop-self.self c.find.new.self c.loop-self.at_end (Err c.in_err-find.field-0.0) c.loop-self.invariant (search rules) (λ q. absurd (cc)))

pub returns-in-Err-clause-advances : goal.returns-in-Err-clause-advances
returns-in-Err-clause-advances g c =
    let now = c.loop-self.self in
    let none = subst (λ b. AdvancesHeld (definitions_of now.plan.now) (root_of now.plan.now) now c.find.new.self (c.loop-self.at_end ≡ true → ahead now ≡ []) (c.loop-self.at_end ≡ true) (Ok b)) c.if-branch.false c.in_ok-find.ensures.advances in
    let new : Records g.row.R.Denot = record { plan = c.find.new.self.plan; input = c.read_more.new.self; next = c.find.new.self.next; limit = c.find.new.self.limit; wanted = c.find.new.self.wanted } in
    subst (λ l. Advances (definitions_of l.now) (root_of l.now) g.R.Read.stream c.args.self.now new (Err (Reader c.in-Err.error))) c.loop-self.invariant.same.0
    (reading-fails _ _ g.R.Read.stream c.args.self.now now c.find.new.self new c.loop-self.at_end _ _ c.in-Err.error c.loop-self.invariant none c.in-Err.ensures refl)

pub returns-then-branch-clause-falls : goal.returns-then-branch-clause-falls
returns-then-branch-clause-falls g c =
    let now = c.loop-self.self in
    let found = subst (λ b. AdvancesHeld (definitions_of now.plan.now) (root_of now.plan.now) now c.find.new.self (c.loop-self.at_end ≡ true → ahead now ≡ []) (c.loop-self.at_end ≡ true) (Ok b)) c.if-branch.true c.in_ok-find.ensures.advances in
    falls-on _ _ g.R.Read.stream c.args.self.now c.find.new.self (Ok true) (reading-ends _ _ g.R.Read.stream c.args.self.now now c.find.new.self c.loop-self.at_end (Ok true) c.loop-self.invariant found (λ q. absurd (cc)))
