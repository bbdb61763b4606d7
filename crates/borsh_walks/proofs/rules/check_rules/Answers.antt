use Rattle.borsh_walks.specs.Counts.{definitions_of}
use Rattle.borsh_walks.proofs.RulesComplete.{rules_complete}
use Rattle.borsh_walks.proofs.rules.check_rules.Goals as goal

pub returns-clause-complete : goal.returns-clause-complete
returns-clause-complete c = rules_complete (definitions_of c.args.counted.now) c.args.root.now c.walk_rules.result c.walk_rules.ensures.answer
