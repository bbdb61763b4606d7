use Rattle.std.proofs.Common.{ℕ, List, length, reverse}
use Rattle.borsh_json.specs.{Found.{forms_of, names_of}, Ordered.{Compared}, Orders.{AreAlike, ArePending}}
use Rattle.borsh_json.proofs.order.next_value.Given as goal

abbrev pub invariant-loop-next : goal.invariant-loop-next
invariant-loop-next l =
    let F = forms_of l.fn.json in
    let ns = names_of l.fn.json in
    (ts : List Compared) → ArePending F ns (reverse l.initial.pending.items) ts → (us : List Compared) × ArePending F ns (reverse l.pending.items) us × ((L R : List ℕ) → AreAlike F ts L R us L R)

abbrev pub decreases-loop-next : goal.decreases-loop-next
decreases-loop-next l = length l.pending.items
