use Rattle.std.proofs.Common.{◌≡◌, length}
use Rattle.borsh_json.specs.{Found.{forms_of, names_of}, Orders.{AreOrders}}
use Rattle.borsh_json.proofs.definitions.Definitions.orders.Given as goal

abbrev pub invariant-loop-at : goal.invariant-loop-at
invariant-loop-at l = (length l.orders.items ≡ l.at) × AreOrders (forms_of l.self) (names_of l.self) l.orders.items
