use Rattle.std.proofs.Common.{ℕ, List, [], ◌∷◌, reverse}
use Rattle.borsh_json.specs.{Found.{forms_of, names_of}, Ordered.{Compared, a_value}, Orders.{AreAlike, ArePending, IsTurn, OrderedBy}}
use Rattle.borsh_json.proofs.order.is_at_least.Given as goal

abbrev pub invariant-loop : goal.invariant-loop
invariant-loop l =
    let F = forms_of l.fn.json in
    let ns = names_of l.fn.json in
    (x : List ℕ) → OrderedBy l.fn.json x l.fn.order → (t : Compared) × (ts : List Compared) × IsTurn F ns l.order t × ArePending F ns (reverse l.pending.items) ts × AreAlike F (a_value x ∷ []) l.fn.left l.fn.right (t ∷ ts) l.pair.left.now l.pair.right.now
