use Rattle.std.proofs.Common.{◌≡◌, ℕ, ◌≤◌, List, Some}
use Rattle.std.specs.Prelude.{slice_get}
use Rattle.borsh_compare.specs.Together.{unnamed}
use Rattle.borsh_compare.proofs.definitions.index_for.Given as goal

abbrev pub invariant-loop-at : goal.invariant-loop-at
invariant-loop-at l = (j : ℕ) (q : List ℕ) → l.at ≤ j → slice_get (unnamed l.variants.items) j ≡ Some (l.discriminant, q) → ⊥

abbrev pub decreases-loop-at : goal.decreases-loop-at
decreases-loop-at l = l.at
