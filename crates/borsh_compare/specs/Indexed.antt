-- The table of pairs of places.
use Rattle.std.specs.Prelude.{◌≡◌, ◌⊎◌, ℕ, List, Option, Some, slice_get}
use Rattle.std.specs.BTreeMap.{BTreeMap, get}
use Rattle.std.specs.Coded.{Coded-set, Π_prop, coded_option, coded_ℕ}
use Rattle.std.specs.declared.cmp.Ordering.{Ordering}
use Rattle.std.specs.Ordering.{nat_cmp, ordering_then}
use Rattle.borsh_compare.specs.declared.pairs.Pair.{Pair}

-- the order of pairs of places
abbrev pub pair_cmp : ℕ × ℕ → ℕ × ℕ → Ordering
pair_cmp x y = ordering_then (nat_cmp x.0 y.0) (nat_cmp x.1 y.1)

-- what the table has at a pair of places
abbrev pub index_in : BTreeMap (ℕ × ℕ) ℕ → ℕ → ℕ → Option ℕ
index_in t i j = get pair_cmp t (i, j)

-- the table has the index of each pair
abbrev pub HasIndices : List Pair → BTreeMap (ℕ × ℕ) ℕ → Type 0
HasIndices pairs t = (i : ℕ) (p : Pair) → slice_get pairs i ≡ Some p → index_in t p.old p.new ≡ Some i

-- that has at most one proof
pub HasIndices-prop : (pairs : List Pair) (t : BTreeMap (ℕ × ℕ) ℕ) → IsProp (HasIndices pairs t)
HasIndices-prop pairs t = Π_prop λ i. Π_prop λ p. Π_prop λ _. Coded-set (coded_option coded_ℕ) _ _

-- no pair is of these places
abbrev pub LacksPair : List Pair → ℕ → ℕ → Type 0
LacksPair pairs i j = (k : ℕ) (p : Pair) → slice_get pairs k ≡ Some p → p.old ≡ i → p.new ≡ j → ⊥

-- of the pairs after, those that weren't there before are of the places of this one
abbrev pub AddsOnly : Pair → List Pair → List Pair → Type 0
AddsOnly pair before after = (i : ℕ) (p : Pair) → slice_get after i ≡ Some p → (slice_get before i ≡ Some p) ⊎ ((p.old ≡ pair.old) × (p.new ≡ pair.new))
