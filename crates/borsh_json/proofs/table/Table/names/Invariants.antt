use Rattle.borsh_json.specs.Found.{forms_of, names_of}
use Rattle.borsh_json.proofs.TellingLaws.{HasTold}
use Rattle.borsh_json.proofs.table.Table.names.Given as goal

abbrev pub invariant-loop-at : goal.invariant-loop-at
invariant-loop-at l = HasTold (forms_of l.fn.self) (names_of l.fn.self) l.at l.writer
