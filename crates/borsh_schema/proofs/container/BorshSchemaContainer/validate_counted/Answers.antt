use Rattle.std.proofs.Common.{rules}
use Rattle.borsh_schema.proofs.Counted.{judged_as}
use Rattle.borsh_schema.proofs.container.BorshSchemaContainer.validate_counted.Goals as goal

pub returns : goal.returns
returns c = record {
  answer = search rules;
  complete = search rules;
  counts = judged_as c.check_rules.result (search rules) (search rules) (search rules) (search rules) c.check_rules.ensures.counts;
  work = search rules;
}
