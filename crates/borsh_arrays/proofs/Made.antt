-- Values that were made in order: one more behind them, one in front of them, and what all of them keep.
use Rattle.std.proofs.Common.{◌≡◌, ℕ, ◌+◌, ◌-◌, ◌<◌, List, [], ◌∷◌, ◌++◌, length, refl, sym, ap, subst, ◌∙◌, arith, add-one, length-append, append-nil, append_assoc}
use lib.ListN.{take, set}
use lib.Seq.{take-suc-set}
use Rattle.borsh_arrays.specs.Made.{MadeInOrder, IsMade, IsMadeBehind, IsGivenUp}

-- up to the value that was put last, a row has what it had before it, and that value
pub take-put : {A : Type 0} (before after : List A) (i : ℕ) (x : A) → after ≡ set before i x → i < length before → take (i + 1) after ≡ take i before ++ x ∷ []
take-put before after i x written inside = (λ k. take (add-one i k) (written k)) ∙ take-suc-set before i x inside

-- a value that was made after those of xs is behind them
MadeInOrder-append : {S A : Type 0} (makes : S → A → S → Type 0) (s t u : S) (xs : List A) (x : A) → MadeInOrder makes s xs t → makes t x u → MadeInOrder makes s (xs ++ x ∷ []) u
MadeInOrder-append makes s t u [] x so_far new = (u, subst (λ r. makes r x u) (sym so_far) new, refl)
MadeInOrder-append makes s t u (y ∷ xs) x so_far new = (so_far.0, so_far.1, MadeInOrder-append makes so_far.0 t u xs x so_far.2 new)

module _ {S A : Type 0} {makes : S → A → S → Type 0} where
  pub IsMadeBehind-none : {s : S} {first : A} {xs : List A} → xs ≡ first ∷ [] → IsMadeBehind makes 0 first s xs s
  IsMadeBehind-none whole = record { rest = []; whole = whole; made = record { count = refl; in_order = refl } }

  pub IsMadeBehind-more : {n m : ℕ} {s t u : S} {first x : A} {xs ys : List A} → ys ≡ xs ++ x ∷ [] → m ≡ n + 1 → IsMadeBehind makes n first s xs t → makes t x u → IsMadeBehind makes m first s ys u
  IsMadeBehind-more {s = s} {t = t} {u = u} {x = x} longer one_more so_far new = record {
    rest = so_far.rest ++ x ∷ [];
    whole = longer ∙ ap (λ front. front ++ x ∷ []) so_far.whole;
    made = record {
      count = omega (arith, length-append so_far.rest (x ∷ []), so_far.made.count, one_more);
      in_order = MadeInOrder-append makes s t u so_far.rest x so_far.made.in_order new;
    };
  }

module _ {S A : Type 0} {makes : S → A → S → Type 0} where
  -- the first of n values was made, and then the others
  pub IsMade-first : {n : ℕ} {s t u : S} {first : A} {xs : List A} → 0 < n → makes s first t → IsMadeBehind makes (n - 1) first t xs u → IsMade makes n s xs u
  IsMade-first {n = n} {s = s} {u = u} some made others =
      subst (λ ys. IsMade makes n s ys u) (sym others.whole) (record { count = omega (arith, others.made.count); in_order = (_, made, others.made.in_order) })

  -- the first of n values was made, and then the maker gave up
  pub IsGivenUp-first : {gives_up : S → S → Type 0} {n : ℕ} {s t u : S} (first : A) → 0 < n → makes s first t → IsGivenUp makes gives_up (n - 1) t u → IsGivenUp makes gives_up n s u
  IsGivenUp-first first some made others =
      record { made = first ∷ others.made; last = others.last; few = omega (arith, others.few); in_order = (_, made, others.in_order); stopped = others.stopped }

-- what holds of no values at s, and goes on to hold with each value that is made, holds of all that were made
pub MadeInOrder-fold : {S A : Type 0} (makes : S → A → S → Type 0) (P : List A → S → Type 0) → ((ys : List A) (y : A) (t u : S) → P ys t → makes t y u → P (ys ++ y ∷ []) u)
    → (s t : S) (xs : List A) → P [] s → MadeInOrder makes s xs t → P xs t
MadeInOrder-fold {S} {A} makes P step s t xs begin in_order = from [] s xs begin in_order
  where
    from : (ys : List A) (s : S) (xs : List A) → P ys s → MadeInOrder makes s xs t → P (ys ++ xs) t
    from ys s [] so_far same = subst (λ zs. P zs t) (sym (append-nil ys)) (subst (P ys) same so_far)
    from ys s (x ∷ xs) so_far made = subst (λ zs. P zs t) (append_assoc ys (x ∷ []) xs) (from (ys ++ x ∷ []) made.0 xs (step ys x s made.0 so_far made.1) made.2)
