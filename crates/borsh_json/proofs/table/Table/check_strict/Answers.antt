use Rattle.borsh_plan.specs.Plan.{map_of, root_of}
use Rattle.borsh_json.proofs.WritingLaws.{is_represented}
use Rattle.borsh_json.proofs.table.Table.check_strict.Goals as goal

pub returns-clause-represented : goal.returns-clause-represented
returns-clause-represented c =
    let l = c.args.self.now.plan.now in
    is_represented (map_of l) (root_of l) c.args.bytes.now c.in_ok-write.field-0 c.in_ok-write.ensures.written c.in_ok-write.ensures.member
