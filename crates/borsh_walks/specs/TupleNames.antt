-- The names of tuples.
use Rattle.std.specs.Prelude.{ℕ, List, [], ◌∷◌, ◌++◌, codes}

-- the names, each behind a comma
abbrev pub following : List (List ℕ) → List ℕ
following [] = []
following (n ∷ ns) = codes ", " ++ (n ++ following ns)

-- the name of a tuple of two elements or more: the first one's name, and those of the others
abbrev pub longer_tuple_name : List ℕ → List (List ℕ) → List ℕ
longer_tuple_name first others = codes "(" ++ (first ++ (following others ++ codes ")"))

-- the name of a tuple
abbrev pub tuple_name : List (List ℕ) → List ℕ
tuple_name [] = codes "()"
tuple_name (n ∷ []) = codes "(" ++ (n ++ codes ",)")
tuple_name (n ∷ m ∷ ns) = longer_tuple_name n (m ∷ ns)
