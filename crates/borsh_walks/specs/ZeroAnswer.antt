-- What the walk for zero size goes over.
use Rattle.std.specs.Prelude.{◌≡◌, ◌≢◌, AllPairs, ◌⊎◌, ℕ, List, [], length, Option, Some, None, unwrap_or, Bool, true, false, Decides, Result, OnOk}
use Rattle.borsh_walks.specs.declared.counted.Counted.{Counted}
use Rattle.borsh_walks.specs.declared.counted.Expansions.{Expansions}
use Rattle.borsh_walks.specs.declared.counted.Question.TheVariants.{Zero as ZeroQuestion}
use Rattle.borsh_walks.specs.Counts.{counts_of, definitions_of, add_to}
use Rattle.std.specs.Borrow.{Bor}
use Rattle.std.specs.BTreeMap.{BTreeMap, btree_map_len}
use Rattle.borsh_walks.specs.Container.{Shape, IsIn, IsDefined, IsZeroSize, zero_size_references}
use Rattle.borsh_walks.specs.Tables.{mark_of, IsMarked, Visited}

-- the parts that have to be of zero size for a definition to be; none where it never is
abbrev pub zero_size_parts : Shape → List (List ℕ)
zero_size_parts d = unwrap_or (zero_size_references d) []

-- what a table of zero size keeps between two walks: `true` marks a name of zero size, `false` one that is not; the names of its keys are defined
pub record ZeroTable (C : List ℕ → Option Shape) (t : BTreeMap (Bor (List ℕ)) Bool) : Type 0 where
  pub names : List (List ℕ)
  pub marks : Visited (IsDefined C) (mark_of t) names
  pub len : btree_map_len t ≡ length names
  pub zero_is : (x : List ℕ) → mark_of t x ≡ Some true → IsZeroSize C x
  pub not_zero_is : (x : List ℕ) → mark_of t x ≡ Some false → IsZeroSize C x → ⊥

-- `zero` has counted the names of the table, beside the counts `base`
abbrev pub IsZeroCount : Counted → ℕ → Expansions → Type 0
IsZeroCount c k base = counts_of c ≡ add_to ZeroQuestion k base

-- where `zero` has counted the names of the table `t`, it has counted `names` from now on: each there once, each with a definition, and
-- each marked in `t` before or one of those that `IsNew` allows; without an error these are the names of the table `u`
pub record ZeroCounted {A E : Type 0} (IsNew : List ℕ → Type 0) (old new : Counted) (t u : BTreeMap (Bor (List ℕ)) Bool) (r : Result A E) : Type 0 where
  pub names : List (List ℕ)
  pub once : AllPairs ◌≢◌ names
  pub known : (x : List ℕ) → IsIn x names → IsDefined (definitions_of old) x × (IsMarked t x ⊎ IsNew x)
  pub counts : (base : Expansions) → IsZeroCount old (btree_map_len t) base → IsZeroCount new (length names) base
  pub all : OnOk r ((length names ≡ btree_map_len u) × ((x : List ℕ) → IsMarked u x → IsIn x names))

-- what was marked stays marked, and so is the name from now on, if it is defined
abbrev pub ZeroMarked : (List ℕ → Option Shape) → List ℕ → BTreeMap (Bor (List ℕ)) Bool → BTreeMap (Bor (List ℕ)) Bool → Type 0
ZeroMarked C name t u = ((x : List ℕ) → (mark_of t x ≡ None → ⊥) → mark_of u x ≡ None → ⊥) × ((C name ≡ None → ⊥) → mark_of u name ≡ None → ⊥)

-- the answer says whether the name is of zero size
abbrev pub DecidesZeroSize : (List ℕ → Option Shape) → List ℕ → Bool → Type 0
DecidesZeroSize C name b = Decides b (IsZeroSize C name)
