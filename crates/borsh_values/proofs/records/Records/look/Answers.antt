use Rattle.std.proofs.Common.{rules, take, subst}
use Rattle.borsh_plan.specs.Plan.{definitions_of, root_of}
use Rattle.borsh_values.specs.Membership.{IsFrontAnswer}
use Rattle.borsh_values.specs.Records.{ahead, limit_of}
use Rattle.borsh_values.proofs.RecordLaws.{first-of, within-limit, none-whatever}
use Rattle.borsh_values.proofs.records.Records.look.Goals as goal

pub returns-in-Value-clause-found : goal.returns-in-Value-clause-found
returns-in-Value-clause-found g c =
    let l = c.args.self.now.plan.now in
    let C = definitions_of l in
    let n = c.in-Value.length in
    let a = subst (λ b. IsFrontAnswer C (root_of l) b c.in_ok-front_of.field-0) c.tried-tried.ensures c.in_ok-front_of.ensures.answer in
    let h = subst (λ a. IsFrontAnswer C (root_of l) (take (limit_of c.args.self.now) (ahead c.args.self.now)) a) c.in-Value.is a in
    (within-limit C (root_of l) (ahead c.args.self.now) (limit_of c.args.self.now) n h, first-of C (root_of l) (ahead c.args.self.now) (limit_of c.args.self.now) n (search rules) h)

pub returns-in-NoMember-clause-error : goal.returns-in-NoMember-clause-error
returns-in-NoMember-clause-error g c =
    let l = c.args.self.now.plan.now in
    let C = definitions_of l in
    let a = subst (λ b. IsFrontAnswer C (root_of l) b c.in_ok-front_of.field-0) c.tried-tried.ensures c.in_ok-front_of.ensures.answer in
    let h = subst (λ a. IsFrontAnswer C (root_of l) (take (limit_of c.args.self.now) (ahead c.args.self.now)) a) c.in-NoMember.is a in
    (search rules, none-whatever C (root_of l) (ahead c.args.self.now) (limit_of c.args.self.now) c.in-NoMember.fault h)
