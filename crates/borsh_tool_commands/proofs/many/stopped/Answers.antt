use Rattle.std.proofs.Common.{flat_map}
use Rattle.std.proofs.lemmas.Result.{IfOk-weaker}
use Rattle.borsh_tool_commands.specs.Plain.{escaped}
use Rattle.borsh_tool_commands.proofs.many.stopped.Goals as goal

pub returns : goal.returns
returns c = IfOk-weaker c.no.result _ _ (λ a h. (h.0, (flat_map escaped c.as_str.result.now, h.1))) c.no.ensures
