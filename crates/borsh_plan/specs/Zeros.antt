-- Names whose values have no bytes.
use Rattle.std.specs.Prelude.{◌≡◌, ◌<◌, ℕ, List, length, Bool, false, Option, None, MatchOption, Decides, get_or, ⊤}
use Rattle.std.specs.Coded.{×_prop, Π_prop, Coded-set, coded_bool}
use Rattle.borsh_walks.specs.Container.{Shape, product, IsIn, IsZeroSize, zero_size_references}
use Rattle.borsh_walks.proofs.Propositions.{zero_prop}
use Rattle.borsh_plan.specs.Names.{name_at, shape_at, parts_in}
use Rattle.borsh_plan.specs.declared.named.Named.{Named}

-- a definition that says without its parts that values have bytes
abbrev pub IsNeverZero : Option Shape → Type 0
IsNeverZero o = MatchOption o ⊥ (λ d. zero_size_references d ≡ None)

-- a definition whose parts come one after another
abbrev pub IsProduct : Shape → Type 0
IsProduct (product ps) = ⊤
IsProduct d = ⊥

-- the definition at a place has a part whose definition says that values have bytes
abbrev pub HasNeverZeroPart : List Named → ℕ → Type 0
HasNeverZeroPart ns i = (k : ℕ) × (k < length ns) × IsIn (name_at ns k) (parts_in (shape_at ns i)) × IsNeverZero (shape_at ns k)

module _ (C : List ℕ → Option Shape) (ns : List Named) where
  -- whether the values of the name at a place have no bytes
  abbrev pub ZeroAt : ℕ → Bool → Type 0
  ZeroAt i b = Decides b (IsZeroSize C (name_at ns i))

  -- that of each place
  abbrev pub AreZeros : List Bool → Type 0
  AreZeros zs = (i : ℕ) → i < length ns → ZeroAt i (get_or zs i false)

  pub AreZeros-prop : (zs : List Bool) → IsProp (AreZeros zs)
  AreZeros-prop zs = Π_prop λ i. Π_prop λ _. ×_prop (Π_prop λ _. zero_prop C) (Π_prop λ _. Coded-set coded_bool _ _)
