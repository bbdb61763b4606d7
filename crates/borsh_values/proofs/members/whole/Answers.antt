use Rattle.std.proofs.Common.{refl, subst}
use Rattle.borsh_plan.specs.Plan.{definitions_of, root_of}
use Rattle.borsh_values.specs.Membership.{IsFrontAnswer}
use Rattle.borsh_values.proofs.Answers.{all_taken, some_left, stopped, stopped_for_good}
use Rattle.borsh_values.proofs.members.whole.Goals as goal

pub returns-then-taken-bytes : goal.returns-then-taken-bytes
returns-then-taken-bytes c =
    let C = definitions_of c.args.plan.now in
    let root = root_of c.args.plan.now in
    all_taken C root c.args.bytes.now c.in-Value.taken c.if-taken-bytes.true (subst (λ a. IsFrontAnswer C root c.args.bytes.now a) c.in-Value.is c.requires)

pub returns-else-taken-bytes : goal.returns-else-taken-bytes
returns-else-taken-bytes c =
    let C = definitions_of c.args.plan.now in
    let root = root_of c.args.plan.now in
    some_left C root c.args.bytes.now c.in-Value.taken c.if-taken-bytes.false (subst (λ a. IsFrontAnswer C root c.args.bytes.now a) c.in-Value.is c.requires) _ refl c.root-root.ensures refl

pub returns-in-TooShort : goal.returns-in-TooShort
returns-in-TooShort c =
    let C = definitions_of c.args.plan.now in
    let root = root_of c.args.plan.now in
    let h = subst (λ a. IsFrontAnswer C root c.args.bytes.now a) c.in-TooShort.is c.requires in
    stopped C root c.args.bytes.now c.in-TooShort.fault h.0

pub returns-in-NoMember : goal.returns-in-NoMember
returns-in-NoMember c =
    let C = definitions_of c.args.plan.now in
    let root = root_of c.args.plan.now in
    stopped_for_good C root c.args.bytes.now c.in-NoMember.fault (subst (λ a. IsFrontAnswer C root c.args.bytes.now a) c.in-NoMember.is c.requires)
