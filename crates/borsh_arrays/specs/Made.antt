-- What a maker made: the values in their order, and whether it gave up. Below, makes s x t says that a maker made x and went from
-- the state s to t, and gives_up s t that it gave up in s and was left in t.
use Rattle.std.specs.Prelude.{◌≡◌, ℕ, ◌<◌, List, [], ◌∷◌, length}

-- from the state s the values xs were made one after another, up to the state t
abbrev pub MadeInOrder : {S A : Type 0} → (S → A → S → Type 0) → S → List A → S → Type 0
MadeInOrder makes s [] t = s ≡ t
MadeInOrder {S = S} makes s (x ∷ xs) t = (u : S) × makes s x u × MadeInOrder makes u xs t

-- n values were made, and these are xs
pub record IsMade {S A : Type 0} (makes : S → A → S → Type 0) (n : ℕ) (s : S) (xs : List A) (t : S) : Type 0 where
  pub count : length xs ≡ n
  pub in_order : MadeInOrder makes s xs t

-- fewer than n values were made, and then the maker gave up
pub record IsGivenUp {S A : Type 0} (makes : S → A → S → Type 0) (gives_up : S → S → Type 0) (n : ℕ) (s t : S) : Type 0 where
  pub made : List A
  pub last : S
  pub few : length made < n
  pub in_order : MadeInOrder makes s made last
  pub stopped : gives_up last t

-- xs is first, and behind it n values that were made
pub record IsMadeBehind {S A : Type 0} (makes : S → A → S → Type 0) (n : ℕ) (first : A) (s : S) (xs : List A) (t : S) : Type 0 where
  pub rest : List A
  pub whole : xs ≡ first ∷ rest
  pub made : IsMade makes n s rest t
