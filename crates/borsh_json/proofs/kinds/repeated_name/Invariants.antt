use Rattle.borsh_json.proofs.RepeatedLaws.{AreApart}
use Rattle.borsh_json.proofs.kinds.repeated_name.Given as goal

abbrev pub invariant-loop-index : goal.invariant-loop-index
invariant-loop-index l = AreApart l.names.items l.index
