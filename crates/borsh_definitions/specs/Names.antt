-- The names of types that are made of other types.
use Rattle.std.specs.Prelude.{◌≡◌, ℕ, List, [], ◌∷◌, ◌++◌, map, codes, decimal, String, string_bytes}
use Rattle.std.specs.Global.{Global}
use Rattle.std.specs.Borrow.{Bor}
pub use Rattle.borsh_walks.specs.TupleNames.{following, longer_tuple_name, tuple_name}

-- the name of a type with one parameter: its beginning up to `<`, and the parameter's name
abbrev pub applied : List ℕ → List ℕ → List ℕ
applied head name = head ++ (name ++ codes ">")

-- the name of a type with two parameters
abbrev pub applied_to_two : List ℕ → List ℕ → List ℕ → List ℕ
applied_to_two head first second = head ++ (first ++ (codes ", " ++ (second ++ codes ">")))

-- the name of a type with the names of its parameters
abbrev pub name_with : List ℕ → List ℕ → List (List ℕ) → List ℕ
name_with name first others = name ++ (codes "<" ++ (first ++ (following others ++ codes ">")))

-- the name of the definition of a variant's fields
abbrev pub variant_type : List ℕ → List ℕ → List ℕ
variant_type enum variant = enum ++ (codes "__" ++ variant)

-- the name of an array: its element and how many there are
abbrev pub array_name : List ℕ → ℕ → List ℕ
array_name element n = codes "[" ++ (element ++ (codes "; " ++ (decimal n ++ codes "]")))

-- the names were put at the end of the list
abbrev pub AppendsNames : List (String Global) → List (String Global) → List (List ℕ) → Type 0
AppendsNames old new names = map (λ d. string_bytes d) new ≡ map (λ d. string_bytes d) old ++ names

-- the names were put at the end of the text, each behind a comma
abbrev pub AppendsFollowing : String Global → String Global → List (List ℕ) → Type 0
AppendsFollowing old new names = string_bytes new ≡ string_bytes old ++ following names

-- ---- the names of fields and variants beside those of their types

-- what each reference of a list refers to
abbrev pub texts : List (Bor (List ℕ)) → List (List ℕ)
texts rs = map (λ r. r.now) rs

-- one list beside another, as long as both last
abbrev pub beside : {A B : Type 0} → List A → List B → List (A × B)
beside xs [] = []
beside [] (y ∷ ys) = []
beside (x ∷ xs) (y ∷ ys) = (x, y) ∷ beside xs ys
