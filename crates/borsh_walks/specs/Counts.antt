-- What a `Counted` looks at, and what it has counted.
use Rattle.std.specs.Prelude.{◌≡◌, ℕ, ◌+◌, ◌≤◌, min, zero, suc, List, Option, if◌then◌else◌, is_some}
use Rattle.std.specs.Borrow.{Bor, MutBor}
use Rattle.std.specs.BTreeMap.{BTreeMap, btree_map_len, get_by_text}
use Rattle.std.specs.Prelude.{String}
use Rattle.std.specs.Global.{Global}
use Rattle.borsh_walks.specs.declared.counted.Counted.{Counted}
use Rattle.borsh_walks.specs.declared.counted.Expansions.{Expansions}
use Rattle.borsh_walks.specs.declared.counted.Question.{Question}
use Rattle.borsh_walks.specs.declared.counted.Question.TheVariants.{Size, Zero, Rules}
use Rattle.borsh_walks.specs.declared.definition.Definition.{Definition}
use Rattle.borsh_walks.specs.Container.{Shape}
use Rattle.borsh_walks.specs.Definitions.{definitions_in}

-- the definition of a name
abbrev pub definition_at : Counted → List ℕ → Option Definition
definition_at c x = get_by_text c.map.now x

-- the definitions, as a function of the name
abbrev pub definitions_of : Counted → List ℕ → Option Shape
definitions_of c = definitions_in c.map.now

-- how many definitions there are
abbrev pub definition_count : Counted → ℕ
definition_count c = btree_map_len c.map.now

-- its counts
abbrev pub counts_of : Counted → Expansions
counts_of c = c.counts.now

-- it looks at the map and counts in `counts`
abbrev pub IsCounting : Counted → Bor (BTreeMap (String Global) Definition) → MutBor Expansions → Type 0
IsCounting c map counts = (c.map ≡ map) × (c.counts.ghost_name ≡ counts.ghost_name) × (c.counts.now ≡ counts.now)

-- it still looks at the same map and counts in the same place
abbrev pub LooksOn : Counted → Counted → Type 0
LooksOn old new = (new.map ≡ old.map) × (new.counts.ghost_name ≡ old.counts.ghost_name)

-- n raised by k; a count at its greatest value stays
abbrev pub add_saturating : ℕ → ℕ → ℕ
add_saturating n zero = n
add_saturating n (suc k) = min (n + suc k) 18446744073709551615

-- the counts with that of the question raised by k
abbrev pub add_to : Question → ℕ → Expansions → Expansions
add_to Size k e = record e { size = add_saturating e.size k }
add_to Zero k e = record e { zero = add_saturating e.zero k }
add_to Rules k e = record e { rules = add_saturating e.rules k }

-- a look-up for a question returns the definition of the name; where there is one, the question's count rises by one
abbrev pub CountsLook : {A : Type 0} → Question → Counted → Counted → Option A → Type 0
CountsLook question old new found = counts_of new ≡ (if is_some found then add_to question 1 (counts_of old) else counts_of old)

-- `size` rose by at most that many, and the others stay
abbrev pub SizeWork : ℕ → Expansions → Expansions → Type 0
SizeWork most old new = (k : ℕ) × (k ≤ most) × (new ≡ add_to Size k old)
