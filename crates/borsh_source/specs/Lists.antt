-- What is listed.
use Rattle.std.specs.Prelude.{◌≡◌, List, [], ◌∷◌, ◌⊎◌}

-- x is one of the list
abbrev pub IsListed : {A : Type 0} → A → List A → Type 0
IsListed x [] = ⊥
IsListed x (y ∷ ys) = (y ≡ x) ⊎ IsListed x ys

-- each of the first list is one of the second
abbrev pub AreListed : {A : Type 0} → List A → List A → Type 0
AreListed {A = A} xs ys = (x : A) → IsListed x xs → IsListed x ys
