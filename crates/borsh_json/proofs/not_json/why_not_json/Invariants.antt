use Rattle.std.proofs.Common.{length}
use Rattle.borsh_json.proofs.TextLaws.{WereRead}
use Rattle.borsh_json.proofs.not_json.why_not_json.Given as goal

abbrev pub invariant-loop : goal.invariant-loop
invariant-loop l = WereRead l.fn.text l.reader (length l.open.items)
