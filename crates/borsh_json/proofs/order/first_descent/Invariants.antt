use Rattle.std.proofs.Common.{◌≡◌, ◌-◌, ◌*◌, ◌<◌, ◌≤◌, ◌++◌, ℕ, List, length, Option}
use Rattle.borsh_plan.specs.declared.named.Named.{Named}
use Rattle.borsh_json.specs.{Descents.{PrimitivesDescend}, Forms.{Form}, Orders.{ArePrimitives}}
use Rattle.borsh_json.proofs.order.first_descent.Given as goal

abbrev pub invariant-loop-index : goal.invariant-loop-index
invariant-loop-index l =
    (1 ≤ l.index)
    × ((c : ℕ) → 0 < l.size → length l.bytes ≡ c * l.size → (before : List ℕ) × (m : ℕ) × (l.bytes ≡ before ++ l.rest) × (length before ≡ (l.index - 1) * l.size) × (length l.rest ≡ m * l.size))
    × ((F : List ℕ → Option Form) (ns : List Named) (e : List ℕ) → ArePrimitives F ns e l.order l.size l.bytes → (i : ℕ) → i < l.index → PrimitivesDescend F e l.size l.bytes i → ⊥)
