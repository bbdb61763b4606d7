use Rattle.borsh_codec.proofs.DecodeOutcomes.{decodes_not_made}
use Rattle.borsh_de.proofs.parts.read_checked.Goals as goal

pub returns-in-None : goal.returns-in-None
returns-in-None g c = decodes_not_made g.T.TryFromParts.view g.met.T.Parts.BorshType.lawful c.in-None.ensures.none c.refused.ensures c.in_ok-parts.ensures
