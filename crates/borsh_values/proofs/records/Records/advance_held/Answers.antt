use Rattle.borsh_values.proofs.RecordLaws.{falls-held}
use Rattle.borsh_values.proofs.records.Records.advance_held.Goals as goal

pub returns-clause-falls : goal.returns-clause-falls
returns-clause-falls g c = falls-held _ _ g.R.Read.stream c.args.self.now c.find.new.self _ _ c.find.result c.find.ensures.advances
