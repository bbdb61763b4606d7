-- The places of names among the entries of a map, and marks by place.
use Rattle.std.specs.Prelude.{◌≡◌, ℕ, suc, List, [], ◌∷◌, Option, Some, None, String, cond, map, option_map, string_bytes}
use Rattle.std.specs.Borrow.{Bor}
use Rattle.std.specs.Map.Iter.{deref_pair}
use Rattle.std.specs.List.Sorted.{IsStrictlySortedBy}
use Rattle.std.specs.Cmp.Lexicographic.{slice_cmp}
use Rattle.std.specs.Ordering.{nat_cmp, is_eq}
use Rattle.borsh_walks.specs.declared.places.Places.{Places}

-- how many entries stand before the first one of the name
abbrev pub place_in : {A X : Type 0} → List (String A × X) → List ℕ → Option ℕ
place_in [] x = None
place_in (e ∷ es) x = cond (is_eq (slice_cmp nat_cmp x (string_bytes e.0))) (Some 0) (option_map (λ i. suc i) (place_in es x))

-- the mark of a name, where each entry has a mark or none
abbrev pub mark_by : {A X M : Type 0} → List (String A × X) → List (Option M) → List ℕ → Option M
mark_by [] ms x = None
mark_by (e ∷ es) [] x = None
mark_by (e ∷ es) (m ∷ ms) x = cond (is_eq (slice_cmp nat_cmp x (string_bytes e.0))) m (mark_by es ms x)

-- how many marks there are
abbrev pub filled : {M : Type 0} → List (Option M) → ℕ
filled [] = 0
filled (None ∷ ms) = filled ms
filled (Some m ∷ ms) = suc (filled ms)

-- the names ascend
abbrev pub AreInOrder : {X : Type 0} → List (Bor (List ℕ) × Bor X) → Type 0
AreInOrder vs = IsStrictlySortedBy (λ v w. slice_cmp nat_cmp v.0.now w.0.now) vs

-- vs refers to the bytes of each name in es, and to its definition
abbrev pub AreEntries : {A X : Type 0} → List (String A × X) → List (Bor (List ℕ) × Bor X) → Type 0
AreEntries es vs = map deref_pair vs ≡ map (λ e. (string_bytes e.0, e.1)) es

-- the entries are those of the map, in order
abbrev pub AreListed : Places → Type 0
AreListed p = AreEntries p.map.now.entries p.entries.items × AreInOrder p.entries.items
