use Rattle.std.proofs.Common.{◌≡◌, length, false}
use Rattle.borsh_json.specs.{Found.{forms_of, names_of}, Orders.{AreFoundKinds, NoneAscends}}
use Rattle.borsh_json.proofs.table.Table.new.Given as goal

abbrev pub invariant-loop-at : goal.invariant-loop-at
invariant-loop-at l = (length l.kinds.items ≡ l.at) × AreFoundKinds (forms_of l.definitions) (names_of l.definitions) l.kinds.items × (l.ascends ≡ false → NoneAscends l.kinds.items)
