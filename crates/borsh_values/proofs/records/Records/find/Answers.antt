use Rattle.std.proofs.Common.{rules}
use Rattle.borsh_plan.specs.Plan.{definitions_of, root_of}
use Rattle.borsh_values.proofs.RecordLaws.{value-taken}
use Rattle.borsh_values.proofs.records.Records.find.Goals as goal

pub returns-in-Some-clause-advances : goal.returns-in-Some-clause-advances
returns-in-Some-clause-advances g c =
    let l = c.args.self.now.plan.now in
    let found = c.in_ok-length.ensures.found in
    value-taken (definitions_of l) (root_of l) c.args.self.now _ _ _ c.in-Some.length (search rules) (search rules) c.take.ensures (search rules)
