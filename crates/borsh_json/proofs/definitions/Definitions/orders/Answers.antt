use Rattle.std.proofs.{Common.{ap, arith, length}, lemmas.List.{length_push}}
use Rattle.borsh_json.specs.Found.{forms_of, names_of}
use Rattle.borsh_json.proofs.KindOrders.{no_orders, orders_pushed}
use Rattle.borsh_json.proofs.definitions.Definitions.orders.Goals as goal

pub loop-at-init : goal.loop-at-init
loop-at-init c =
    let d = c.args.self.now in
    (ap (λ xs. length xs) c.in_ok-orders.ensures.items, no_orders (forms_of d) (names_of d) _ c.in_ok-orders.ensures.items)

pub loop-at-preserved : goal.loop-at-preserved
loop-at-preserved c =
    let d = c.args.self.now in
    let v = c.loop-at.invariant in
    let items = c.in_ok-push.ensures.items in (
      (let n = ap (λ xs. length xs) items in let k = length_push c.loop-at.orders.items c.order_of-order.result in let m = v.0 in omega arith),
      orders_pushed (forms_of d) (names_of d) c.loop-at.orders.items c.push.new.self.items c.loop-at.at c.order_of-order.result v.1 items v.0 c.order_of-order.ensures,
    )

pub returns : goal.returns
returns c = c.loop-at.invariant.1
