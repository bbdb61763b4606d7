use Rattle.std.proofs.lemmas.Result.{IfOk-weaker}
use Rattle.borsh.proofs.WellFormed.{decoded_members, own_well_formed}
use Rattle.borsh.proofs.schema_helpers.schema_container_of.Goals as goal

pub returns-clause-decoded : goal.returns-clause-decoded
returns-clause-decoded g c = IfOk-weaker c.for_type.result _ _ (decoded_members g.met.T.BorshType.lawful) c.for_type.ensures.language

pub returns-clause-well_formed : goal.returns-clause-well_formed
returns-clause-well_formed g c = IfOk-weaker c.for_type.result _ _ (own_well_formed g.T.BorshSchema.name g.T.BorshSchema.parts) c.for_type.ensures.ok
