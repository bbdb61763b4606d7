-- What is listed in two lists together.
use Rattle.std.proofs.Common.{◌≡◌, ℕ, suc, zero, ◌+◌, ◌<◌, List, [], ◌∷◌, ◌++◌, length, map, take, get_or, refl, sym, ◌∙◌, ap, ◌⊎◌, inl, inr, Some, true, false, arith, Bool, add-one}
use Rattle.std.specs.Prelude.{slice_get, ◌||◌}
use Rattle.std.specs.List.{list_any}
use Rattle.std.proofs.lemmas.List.Folds.{list_any-append}
use Rattle.borsh_source.specs.Lists.{IsListed}

pub listed_left : {A : Type 0} (x : A) (xs ys : List A) → IsListed x xs → IsListed x (xs ++ ys)
listed_left x [] ys h = absurd h
listed_left x (y ∷ xs) ys (inl e) = inl e
listed_left x (y ∷ xs) ys (inr h) = inr (listed_left x xs ys h)

pub listed_right : {A : Type 0} (x : A) (xs ys : List A) → IsListed x ys → IsListed x (xs ++ ys)
listed_right x [] ys h = h
listed_right x (y ∷ xs) ys h = inr (listed_right x xs ys h)

pub listed_cases : {A : Type 0} (x : A) (xs ys : List A) → IsListed x (xs ++ ys) → IsListed x xs ⊎ IsListed x ys
listed_cases x [] ys h = inr h
listed_cases x (y ∷ xs) ys (inl e) = inl (inl e)
listed_cases x (y ∷ xs) ys (inr h) = elim (listed_cases x xs ys h) [ inl a ↦ inl (inr a) | inr b ↦ inr b ]

-- an element at an index is listed, and what is listed has an index
pub listed_at : {A : Type 0} (x : A) (xs : List A) (i : ℕ) → slice_get xs i ≡ Some x → IsListed x xs
listed_at x [] i e = cc
listed_at x (y ∷ xs) zero e = inl (cc)
listed_at x (y ∷ xs) (suc i) e = inr (listed_at x xs i e)

pub index_of : {A : Type 0} (x : A) (xs : List A) → IsListed x xs → (i : ℕ) × (slice_get xs i ≡ Some x)
index_of x [] h = absurd h
index_of x (y ∷ xs) (inl e) = (zero, ap (λ z. Some z) e)
index_of x (y ∷ xs) (inr h) = let r = index_of x xs h in (suc r.0, r.1)

-- ---- the beginning of a list, and one more
pub get_some : {A : Type 0} (xs : List A) (i : ℕ) (d : A) → i < length xs → slice_get xs i ≡ Some (get_or xs i d)
get_some [] i d h = absurd (omega arith)
get_some (x ∷ xs) zero d h = refl
get_some (x ∷ xs) (suc i) d h = get_some xs i d (omega arith)

take_suc : {A : Type 0} {x : A} (xs : List A) (i : ℕ) → slice_get xs i ≡ Some x → take (suc i) xs ≡ take i xs ++ x ∷ []
take_suc [] i e = cc
take_suc (y ∷ xs) zero e = cc
take_suc (y ∷ xs) (suc i) e = ap (λ l. y ∷ l) (take_suc xs i e)

pub take_next : {A : Type 0} {x : A} (xs : List A) (i : ℕ) → slice_get xs i ≡ Some x → take (i + 1) xs ≡ take i xs ++ x ∷ []
take_next xs i e = ap (λ k. take k xs) (add-one i) ∙ take_suc xs i e

pub take_all : {A : Type 0} (xs : List A) → take (length xs) xs ≡ xs
take_all [] = refl
take_all (x ∷ xs) = ap (λ l. x ∷ l) (take_all xs)

pub map_snoc : {A B : Type 0} (f : A → B) (xs : List A) (x : A) → map f (xs ++ x ∷ []) ≡ map f xs ++ f x ∷ []
map_snoc f [] x = refl
map_snoc f (y ∷ xs) x = ap (λ l. f y ∷ l) (map_snoc f xs x)

-- ---- whether one of a list is so
pub any_snoc : {A : Type 0} (f : A → Bool) (xs : List A) (x : A) → list_any f xs ≡ false → f x ≡ false → list_any f (xs ++ x ∷ []) ≡ false
any_snoc f xs x e h = list_any-append f xs (x ∷ []) ∙ ap (λ b. b || (f x || false)) e ∙ ap (λ b. b || false) h

or_right : (b : Bool) {c : Bool} → c ≡ true → (b || c) ≡ true
or_right true e = refl
or_right false e = e

pub any_at : {A : Type 0} (f : A → Bool) (xs : List A) (i : ℕ) (x : A) → slice_get xs i ≡ Some x → f x ≡ true → list_any f xs ≡ true
any_at f [] i x e h = cc
any_at f (y ∷ xs) zero x e h = let p : f y ≡ true = cc in ap (λ b. b || list_any f xs) p
any_at f (y ∷ xs) (suc i) x e h = or_right (f y) (any_at f xs i x e h)

-- an item of a slice by its index
pub item_at : {A : Type 0} (xs : List A) (i : ℕ) (x : A) → i < length xs → x ≡ get_or xs i x → slice_get xs i ≡ Some x
item_at xs i x h e = get_some xs i x h ∙ ap (λ y. Some y) (sym e)

-- what a loop makes of each item in turn is what the whole makes
pub grow : {A B : Type 0} (f : List A → List B) → ((xs ys : List A) → f (xs ++ ys) ≡ f xs ++ f ys) → (xs : List A) (i : ℕ) (x : A) (old new : List B) → slice_get xs i ≡ Some x → old ≡ f (take i xs) → new ≡ old ++ f (x ∷ []) → new ≡ f (take (i + 1) xs)
grow f on xs i x old new e p q = q ∙ ap (λ l. l ++ f (x ∷ [])) p ∙ sym (on (take i xs) (x ∷ [])) ∙ ap f (sym (take_next xs i e))

pub get_left : {A : Type 0} {v : A} (xs ys : List A) (i : ℕ) → slice_get xs i ≡ Some v → slice_get (xs ++ ys) i ≡ Some v
get_left [] ys i e = cc
get_left (x ∷ xs) ys zero e = e
get_left (x ∷ xs) ys (suc i) e = get_left xs ys i e

or_cases : (a b : Bool) → (a || b) ≡ true → (a ≡ true) ⊎ (b ≡ true)
or_cases true b e = inl refl
or_cases false b e = inr e

-- what passes a test of equality is listed, as it is seen
pub listed_by : {A B : Type 0} (same : A → A → Bool) (f : A → B) → ((x y : A) → same x y ≡ true → f x ≡ f y) → (xs : List A) (x : A) → list_any (λ y. same y x) xs ≡ true → IsListed (f x) (map f xs)
listed_by same f on [] x e = cc
listed_by same f on (y ∷ ys) x e = elim (or_cases (same y x) (list_any (λ z. same z x) ys) e) [ inl h ↦ inl (on y x h) | inr h ↦ inr (listed_by same f on ys x h) ]
