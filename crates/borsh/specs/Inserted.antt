-- What inserting entries in turn leaves of them.
use Rattle.std.specs.Prelude.{◌≡◌, Bool, not, List, [], ◌∷◌, filter, reverse}
use Rattle.std.specs.Map.{keys_of, lookup}

-- the keys, each once, where it comes first
abbrev pub first_of_each : {K : Type 0} → (K → K → Bool) → List K → List K
first_of_each eq [] = []
first_of_each eq (k ∷ ks) = k ∷ filter (λ q. not (eq q k)) (first_of_each eq ks)

-- the entries have each key of those that were read once, in the place where it came first, and with the value that came with it last
pub record HasEachKeyOnce {K V : Type 0} (eq : K → K → Bool) (read es : List (K × V)) : Type 0 where
  pub keys : keys_of es ≡ first_of_each eq (keys_of read)
  pub values : (q : K) → lookup (eq q) es ≡ lookup (eq q) (reverse read)
