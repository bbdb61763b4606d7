use Rattle.std.proofs.Common.{◌≡◌, ◌∙◌, None, Some, true, false, Bool, drop, sym, ap, subst, MatchBool}
use mathlib.Core.Bool.{not}
use Rattle.borsh_json.specs.Orders.{IsNotBelow}
use Rattle.borsh_json.proofs.order.Ascent.ascends.Goals as goal

turned : (P : Type 0) (b : Bool) → MatchBool b P (P → ⊥) → MatchBool (not b) (P → ⊥) P
turned P true h = h
turned P false h = h

pub returns-clause-order : goal.returns-clause-order
returns-clause-order c x o i j ei ej =
    let d = c.args.json.now in
    let bs = c.args.bytes.now in
    let p : Some i ≡ Some c.in-Some.earlier = sym ei ∙ c.in-Some.is in
    let q : Some j ≡ Some c.in-Some-last.last = sym ej ∙ c.in-Some-last.is in
    let a : i ≡ c.in-Some.earlier = cc in
    let b : j ≡ c.in-Some-last.last = cc in
    let l = c.from-left.ensures ∙ ap (λ i. drop i bs) (sym a) in
    let m = c.from-right.ensures ∙ ap (λ j. drop j bs) (sym b) in
    let h = c.in_ok-is_at_least.ensures x o in
    turned (IsNotBelow d x (drop i bs) (drop j bs)) c.in_ok-is_at_least.is_at_least (subst (λ r. MatchBool c.in_ok-is_at_least.is_at_least (IsNotBelow d x (drop i bs) r) (IsNotBelow d x (drop i bs) r → ⊥)) m (subst (λ l. MatchBool c.in_ok-is_at_least.is_at_least (IsNotBelow d x l c.from-right.result.now) (IsNotBelow d x l c.from-right.result.now → ⊥)) l h))

pub returns-clause-first : goal.returns-clause-first
returns-clause-first c e = let q : None ≡ Some c.in-Some.earlier = sym e ∙ c.in-Some.is in cc
