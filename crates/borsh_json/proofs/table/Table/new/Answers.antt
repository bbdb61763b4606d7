use Rattle.std.proofs.{Common.{ap, arith, length}, lemmas.List.{length_push}}
use Rattle.borsh_json.specs.Found.{forms_of, names_of}
use Rattle.borsh_json.proofs.{FreeLaws.{none_pushed, none_yet}, KindOrders.{kinds_pushed, no_kinds}}
use Rattle.borsh_json.proofs.table.Table.new.Goals as goal

pub loop-at-init : goal.loop-at-init
loop-at-init c =
    let d = c.new-definitions.result in
    (ap (λ xs. length xs) c.in_ok-kinds.ensures.items, no_kinds (forms_of d) (names_of d) _ c.in_ok-kinds.ensures.items, λ e. none_yet _ c.in_ok-kinds.ensures.items)

pub loop-at-preserved : goal.loop-at-preserved
loop-at-preserved c =
    let d = c.new-definitions.result in
    let v = c.loop-at.invariant in
    let found = c.in_ok-kind.ensures in
    let items = c.in_ok-push.ensures.items in (
      (let n = ap (λ xs. length xs) items in let k = length_push c.loop-at.kinds.items c.in_ok-kind.kind in let m = v.0 in omega arith),
      kinds_pushed (forms_of d) (names_of d) c.loop-at.kinds.items c.push.new.self.items c.loop-at.at c.in_ok-kind.kind v.1 items v.0 found.kind found.orders,
      λ e. (let before = c.ascends_with-ascends.ensures e in none_pushed c.loop-at.kinds.items c.push.new.self.items c.in_ok-kind.kind (v.2 before.0) items before.1),
    )
