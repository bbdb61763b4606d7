use Rattle.std.proofs.Common.{◌≡◌, ◌+◌, ℕ, suc, [], length, ap, sym, ◌∙◌, arith}
use Rattle.json.specs.Json.{Items}
use Rattle.borsh_json.specs.Table.{list_parts}
use Rattle.borsh_json.proofs.opening.count_items.Goals as goal

step : (n m : ℕ) (rest : Items) → n + suc (length (list_parts [] rest)) ≡ m → n + 1 + length (list_parts [] rest) ≡ m
step n m rest e = omega (arith, e)

pub loop-item-init : goal.loop-item-init
loop-item-init c js h = (js, h, omega arith)

pub loop-item-preserved : goal.loop-item-preserved
loop-item-preserved c js h =
    let i = c.loop-item.invariant js h in
    let n = c.in-Some.ensures.value i.0 i.1 in
    (n.1, n.4, step c.loop-item.count (length (list_parts [] js)) n.1 (ap (λ r. c.loop-item.count + length (list_parts [] r)) (sym n.2) ∙ i.2))

pub returns : goal.returns
returns c js h =
    let i = c.loop-item.invariant js h in
    let n = c.in_default.ensures.value i.0 i.1 in
    let e = ap (λ r. length (list_parts [] r)) n in
    omega (arith, e, i.2)
