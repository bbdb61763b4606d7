use Rattle.borsh_json.proofs.RowsLaws.{NoneYet}
use Rattle.borsh_json.proofs.rows.Rows.next.Given as goal

abbrev pub invariant-loop : goal.invariant-loop
invariant-loop l = NoneYet l.fn.self l.self
