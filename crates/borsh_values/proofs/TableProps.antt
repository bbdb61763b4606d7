-- There is at most one proof that tables are those of enums.
use Rattle.std.specs.Prelude.{◌≡◌, ℕ, ℤ, List, Option, Some, slice_get}
use Rattle.std.specs.Coded.{Π_prop, le_prop, Coded-set, coded×, coded_ℕ, coded_ℤ, coded_option}
use mathlib.Core.Path.{path_j}
use Rattle.borsh_walks.specs.Container.{Shape}
use Rattle.borsh_walks.proofs.Propositions.{coded_name, same_some}
use Rattle.borsh_values.specs.declared.tags.Found.TheVariants.{Nothing, One, Several}
use Rattle.borsh_values.specs.declared.tags.Found.{Found}
use Rattle.borsh_values.specs.Tags.{AreTagTables, FoundBy, IsTagTable, Tables, at_key, key_of}
use Rattle.borsh_walks.specs.Container.{tag}

module _ (width : ℕ) (P : ℤ → Type 0) (h : (k : ℤ) → IsProp (P k)) (vs : List (ℤ × List ℕ)) where
  pub found_prop : (f : Found) → IsProp (FoundBy width P vs f)
  found_prop Nothing = Π_prop λ _. Π_prop λ _. Π_prop λ _. Π_prop λ _. λ a. absurd a
  found_prop (One i) = λ a b.
      path_j (λ v q. (e : slice_get vs i ≡ Some v) (p : P v.0) (f : (m : ℕ) (j : ℤ) (q : List ℕ) → slice_get vs m ≡ Some (j, q) → P j → m ≡ i) → a ≡ (v.0, v.1, e, p, f))
      (λ e p f. λ i. (a.0, a.1, Coded-set (coded_option (coded× coded_ℤ coded_name)) _ _ a.2 e i, h a.0 a.3 p i, (Π_prop λ _. Π_prop λ _. Π_prop λ _. Π_prop λ _. Π_prop λ _. Coded-set coded_ℕ _ _) a.4 f i))
      (same_some a.2 b.2) b.2 b.3 b.4
  found_prop Several = Π_prop λ _. λ a. absurd a

table_prop : (width : ℕ) (vs : List (ℤ × List ℕ)) (T : ℕ → Found) → IsProp (IsTagTable width vs T)
table_prop width vs T a b = λ i. record { small = (Π_prop λ _. Π_prop λ _. Π_prop λ _. le_prop) a.small b.small i; right = (Π_prop λ n. found_prop width (λ j. n ≡ key_of (tag width j)) (λ _. Coded-set coded_ℕ _ _) vs (T n)) a.right b.right i }

pub tables_prop : (C : List ℕ → Option Shape) (tables : Tables) → IsProp (AreTagTables C tables)
tables_prop C tables = Π_prop λ _. Π_prop λ width. Π_prop λ vs. Π_prop λ _. Π_prop λ t. Π_prop λ _. table_prop width vs (at_key t)
