-- The places of names among the entries of a map, and marks by place.
use Rattle.std.proofs.Common.{◌≡◌, ℕ, suc, zero, ◌<◌, ◌≤◌, List, [], ◌∷◌, length, refl, sym, ◌∙◌, ap, subst, arith, Some, None, true, false, Bool, inl, inr, Less, Equal, Greater, Ordering}
use Rattle.std.specs.Prelude.{Option, String, cond, get_or, option_map, replicate, slice_get, slice_set, string_bytes, drop}
use Rattle.std.specs.Borrow.{Bor}
use Rattle.std.specs.Cmp.{IsTotalOrder}
use Rattle.std.specs.List.{AllByRecursion, AllWithin}
use Rattle.std.specs.List.Sorted.{IsNonDecreasingBy, IsStrictlySortedBy}
use Rattle.std.specs.Map.{keys_of, lookup}
use Rattle.std.specs.Map.Iter.{deref_pair}
use Rattle.std.specs.Cmp.Lexicographic.{nat_list_cmp_total, slice_cmp}
use Rattle.std.specs.Ordering.{nat_cmp, is_eq, ordering_index, ordering_reverse}
use Rattle.std.proofs.lemmas.Bool.{cases_lt}
use Rattle.std.proofs.lemmas.Map.Keys.{Less-from_sorted}
use Rattle.borsh_walks.specs.Places.{place_in, mark_by, filled, AreEntries, AreInOrder}
use Rattle.borsh_walks.proofs.Names.{same_name}
use Rattle.borsh_walks.proofs.Tables.{Updated}

-- what is known of a head and of a place behind it
place_cases : {R : Type 0} (b : Bool) (q : Option ℕ) (i : ℕ) → cond b (Some 0) (option_map (λ i. suc i) q) ≡ Some i → (b ≡ true → i ≡ 0 → R) → (b ≡ false → (j : ℕ) → i ≡ suc j → q ≡ Some j → R) → R
place_cases true q i p f g = f refl (let e : 0 ≡ i = cc in sym e)
place_cases false None i p f g = cc
place_cases false (Some j) i p f g = g refl j (let e : suc j ≡ i = cc in sym e) refl

cond_is : {Y : Type 0} (b c : Bool) (m r : Y) {o : Y} → b ≡ c → cond c m r ≡ o → cond b m r ≡ o
cond_is b c m r e h = ap (λ k. cond k m r) e ∙ h

-- one of the two choices is the same
not_taken : {Y : Type 0} (b : Bool) (m n r : Y) → (b ≡ true → ⊥) → cond b m r ≡ cond b n r
not_taken true m n r g = absurd (g refl)
not_taken false m n r g = refl

taken_same : {Y : Type 0} (b : Bool) (n : Y) {r s : Y} → (b ≡ false → r ≡ s) → cond b n r ≡ cond b n s
taken_same true n g = refl
taken_same false n g = g refl

both_none : {Y : Type 0} (b : Bool) {r : Option Y} → r ≡ None → cond b None r ≡ None
both_none true h = refl
both_none false h = h

-- there is no mark where no place is
none_of_none : {X : Type 0} (b : Bool) (q : Option ℕ) (m r : Option X) → cond b (Some 0) (option_map (λ i. suc i) q) ≡ None → (q ≡ None → r ≡ None) → cond b m r ≡ None
none_of_none true q m r p f = cc
none_of_none false None m r p f = f refl
none_of_none false (Some j) m r p f = cc

-- ---- how many marks there are
pub none_filled : (M : Type 0) (n : ℕ) → filled {M = M} (replicate n None) ≡ 0
none_filled M zero = refl
none_filled M (suc n) = none_filled M n

module _ {M : Type 0} where
  pub filled_more : (ms : List (Option M)) (i : ℕ) (m : M) → slice_get ms i ≡ Some None → filled (slice_set ms i (Some m)) ≡ suc (filled ms)
  filled_more [] i m g = cc
  filled_more (None ∷ ms) zero m g = refl
  filled_more (Some k ∷ ms) zero m g = cc
  filled_more (None ∷ ms) (suc i) m g = filled_more ms i m g
  filled_more (Some k ∷ ms) (suc i) m g = ap (λ n. suc n) (filled_more ms i m g)

  pub filled_again : (ms : List (Option M)) (i : ℕ) (m : M) → (slice_get ms i ≡ Some None → ⊥) → filled (slice_set ms i (Some m)) ≡ filled ms
  filled_again [] i m g = refl
  filled_again (None ∷ ms) zero m g = absurd (g refl)
  filled_again (Some k ∷ ms) zero m g = refl
  filled_again (None ∷ ms) (suc i) m g = filled_again ms i m g
  filled_again (Some k ∷ ms) (suc i) m g = ap (λ n. suc n) (filled_again ms i m g)

module _ {A X : Type 0} where
  pub place_within : (es : List (String A × X)) (x : List ℕ) (i : ℕ) → place_in es x ≡ Some i → i < length es
  place_within [] x i p = cc
  place_within (e ∷ es) x i p = place_cases (is_eq (slice_cmp nat_cmp x (string_bytes e.0))) (place_in es x) i p (λ h z. omega arith) (λ h j s q. let k = place_within es x j q in omega arith)

  -- two names at one place are the same
  pub same_place : (es : List (String A × X)) (x y : List ℕ) (i : ℕ) → place_in es x ≡ Some i → place_in es y ≡ Some i → x ≡ y
  same_place [] x y i p q = cc
  same_place (e ∷ es) x y i p q =
      place_cases (is_eq (slice_cmp nat_cmp x (string_bytes e.0))) (place_in es x) i p
      (λ h z. place_cases (is_eq (slice_cmp nat_cmp y (string_bytes e.0))) (place_in es y) i q (λ k w. same_name x (string_bytes e.0) h ∙ sym (same_name y (string_bytes e.0) k)) (λ k j s r. absurd (omega arith)))
      (λ h j s r. place_cases (is_eq (slice_cmp nat_cmp y (string_bytes e.0))) (place_in es y) i q (λ k w. absurd (omega arith)) (λ k l t u. same_place es x y j r (u ∙ ap Some (omega arith))))

  module _ {M : Type 0} where
    -- the mark of a name is what stands at its place
    pub marked_at : (es : List (String A × X)) (ms : List (Option M)) (x : List ℕ) (i : ℕ) (o : Option M) → place_in es x ≡ Some i → slice_get ms i ≡ Some o → mark_by es ms x ≡ o
    marked_at [] ms x i o p g = cc
    marked_at (e ∷ es) [] x i o p g = cc
    marked_at (e ∷ es) (m ∷ ms) x i o p g =
        place_cases (is_eq (slice_cmp nat_cmp x (string_bytes e.0))) (place_in es x) i p
        (λ h z. cond_is _ true _ _ h (let q : slice_get (m ∷ ms) 0 ≡ Some o = ap (λ k. slice_get (m ∷ ms) k) (sym z) ∙ g in cc))
        (λ h j s q. cond_is _ false _ _ h (marked_at es ms x j o q (ap (λ k. slice_get (m ∷ ms) k) (sym s) ∙ g)))

    -- another mark at a place is that of its name
    pub set_at : (es : List (String A × X)) (ms : List (Option M)) (x : List ℕ) (i : ℕ) (m : Option M) → place_in es x ≡ Some i → i < length ms → mark_by es (slice_set ms i m) x ≡ m
    set_at [] ms x i m p low = cc
    set_at (e ∷ es) [] x i m p low = absurd (omega arith)
    set_at (e ∷ es) (n ∷ ms) x zero m p low =
        place_cases (is_eq (slice_cmp nat_cmp x (string_bytes e.0))) (place_in es x) 0 p (λ h z. cond_is _ true _ _ h refl) (λ h j s q. absurd (omega arith))
    set_at (e ∷ es) (n ∷ ms) x (suc i) m p low =
        place_cases (is_eq (slice_cmp nat_cmp x (string_bytes e.0))) (place_in es x) (suc i) p (λ h z. absurd (omega arith)) (λ h j s q. cond_is _ false _ _ h (set_at es ms x i m (q ∙ ap Some (omega arith)) (omega arith)))

    -- and that of no other
    pub set_beside : (es : List (String A × X)) (ms : List (Option M)) (x : List ℕ) (i : ℕ) (m : Option M) → (place_in es x ≡ Some i → ⊥) → mark_by es (slice_set ms i m) x ≡ mark_by es ms x
    set_beside [] ms x i m f = refl
    set_beside (e ∷ es) [] x i m f = refl
    set_beside (e ∷ es) (n ∷ ms) x zero m f = not_taken (is_eq (slice_cmp nat_cmp x (string_bytes e.0))) m n (mark_by es ms x) (λ h. f (ap (λ b. cond b (Some 0) (option_map (λ i. suc i) (place_in es x))) h))
    set_beside (e ∷ es) (n ∷ ms) x (suc i) m f = taken_same (is_eq (slice_cmp nat_cmp x (string_bytes e.0))) n (λ h. set_beside es ms x i m (λ q. f (ap (λ b. cond b (Some 0) (option_map (λ i. suc i) (place_in es x))) h ∙ ap (λ o. option_map (λ i. suc i) o) q)))

    pub updated_place : (es : List (String A × X)) (ms : List (Option M)) (x : List ℕ) (i : ℕ) (m : M) → place_in es x ≡ Some i → i < length ms → Updated (mark_by es ms) (mark_by es (slice_set ms i (Some m))) x m
    updated_place es ms x i m p low = record {
      here = set_at es ms x i (Some m) p low;
      others = λ y f. set_beside es ms y i (Some m) (λ q. f (same_place es y x i q p));
    }

    pub unplaced : (es : List (String A × X)) (ms : List (Option M)) (x : List ℕ) → place_in es x ≡ None → mark_by es ms x ≡ None
    unplaced [] ms x p = refl
    unplaced (e ∷ es) [] x p = refl
    unplaced (e ∷ es) (m ∷ ms) x p = none_of_none (is_eq (slice_cmp nat_cmp x (string_bytes e.0))) (place_in es x) m (mark_by es ms x) p (λ q. unplaced es ms x q)

    pub none_marked : (es : List (String A × X)) (n : ℕ) (x : List ℕ) → mark_by {M = M} es (replicate n None) x ≡ None
    none_marked [] n x = refl
    none_marked (e ∷ es) zero x = refl
    none_marked (e ∷ es) (suc n) x = both_none (is_eq (slice_cmp nat_cmp x (string_bytes e.0))) (none_marked es n x)

-- ---- what a search finds
abbrev total : IsTotalOrder (slice_cmp nat_cmp)
total = nat_list_cmp_total

less_greater : (x y : List ℕ) → slice_cmp nat_cmp x y ≡ Less → slice_cmp nat_cmp y x ≡ Greater
less_greater x y e = total.antisymm y x ∙ ap ordering_reverse e

rises : (a b x : List ℕ) → slice_cmp nat_cmp a b ≡ Less → ordering_index (slice_cmp nat_cmp a x) ≤ ordering_index (slice_cmp nat_cmp b x)
rises a b x e = by (slice_cmp nat_cmp a x) refl
  where
    by : (r : Ordering) → slice_cmp nat_cmp a x ≡ r → ordering_index r ≤ ordering_index (slice_cmp nat_cmp b x)
    by Less q = omega arith
    by Equal q = let g = less_greater x b (sym (total.congr a x b q) ∙ e) in subst (λ r. 1 ≤ ordering_index r) (sym g) (omega arith)
    by Greater q = let g = less_greater x b (total.trans x a b (total.antisymm x a ∙ ap ordering_reverse q) e) in subst (λ r. 2 ≤ ordering_index r) (sym g) (omega arith)

pub ordered_by : {X : Type 0} (vs : List (Bor (List ℕ) × Bor X)) (x : List ℕ) → AreInOrder vs → IsNonDecreasingBy (λ y. ordering_index (slice_cmp nat_cmp y.0.now x)) vs
ordered_by vs x o i j d low high = elim (cases_lt i j) [
  | inl h ↦ rises (get_or vs i d).0.now (get_or vs j d).0.now x (Less-from_sorted _ vs i j d o h high)
  | inr h ↦ let e : i ≡ j = omega (arith, low, h) in subst (λ k. ordering_index (slice_cmp nat_cmp (get_or vs i d).0.now x) ≤ ordering_index (slice_cmp nat_cmp (get_or vs k d).0.now x)) e (omega arith)
]

module _ {A X : Type 0} where
  first_name : (v : Bor (List ℕ) × Bor X) (vs : List (Bor (List ℕ) × Bor X)) (e : String A × X) (es : List (String A × X)) → AreEntries (e ∷ es) (v ∷ vs) → string_bytes e.0 ≡ v.0.now
  first_name v vs e es l = ap (λ t. (get_or t 0 (deref_pair v)).0) (sym l)

  all_above : (n : List ℕ) (vs : List (Bor (List ℕ) × Bor X)) (es : List (String A × X)) → AreEntries es vs → AllByRecursion (λ y. slice_cmp nat_cmp n (string_bytes y) ≡ Less) (keys_of es) → AllByRecursion (λ v. slice_cmp nat_cmp n v.0.now ≡ Less) vs
  all_above n [] es l a = tt
  all_above n (v ∷ vs) [] l a = cc
  all_above n (v ∷ vs) (e ∷ es) l a = (ap (λ m. slice_cmp nat_cmp n m) (sym (first_name v vs e es l)) ∙ a.0, all_above n vs es (ap (drop 1) l) a.1)

  -- the names ascend as the keys of the map do
  pub ascend : (vs : List (Bor (List ℕ) × Bor X)) (es : List (String A × X)) → AreEntries es vs → IsStrictlySortedBy (λ x y. slice_cmp nat_cmp (string_bytes x) (string_bytes y)) (keys_of es) → AreInOrder vs
  unfolding IsStrictlySortedBy
  ascend [] es l o = tt
  ascend (v ∷ vs) [] l o = cc
  ascend (v ∷ vs) (e ∷ es) l o = (all_above v.0.now vs es (ap (drop 1) l) (subst (λ n. AllByRecursion (λ y. slice_cmp nat_cmp n (string_bytes y) ≡ Less) (keys_of es)) (first_name v vs e es l) o.0), ascend vs es (ap (drop 1) l) o.1)

  -- no entry has the name
  none_there : (vs : List (Bor (List ℕ) × Bor X)) (es : List (String A × X)) (x : List ℕ) → AreEntries es vs → ((k : ℕ) (d : Bor (List ℕ) × Bor X) → k < length vs → is_eq (slice_cmp nat_cmp x (get_or vs k d).0.now) ≡ false) → (place_in es x ≡ None) × (lookup (λ k. is_eq (slice_cmp nat_cmp x (string_bytes k))) es ≡ None)
  none_there vs [] x l f = (refl, refl)
  none_there [] (e ∷ es) x l f = cc
  none_there (v ∷ vs) (e ∷ es) x l f =
      let h = ap (λ n. is_eq (slice_cmp nat_cmp x n)) (first_name v vs e es l) ∙ f 0 v (omega arith) in
      let t = none_there vs es x (ap (drop 1) l) (λ k d low. f (suc k) d (omega arith)) in
      (cond_is _ false _ _ h (ap (λ o. option_map (λ i. suc i) o) t.0), cond_is _ false _ _ h t.1)

  -- the first entry of the name is the i-th
  there : (vs : List (Bor (List ℕ) × Bor X)) (es : List (String A × X)) (x : List ℕ) (i : ℕ) (d : Bor (List ℕ) × Bor X) → AreEntries es vs → i < length vs → is_eq (slice_cmp nat_cmp x (get_or vs i d).0.now) ≡ true → ((k : ℕ) → k < i → is_eq (slice_cmp nat_cmp x (get_or vs k d).0.now) ≡ false) → (place_in es x ≡ Some i) × (lookup (λ k. is_eq (slice_cmp nat_cmp x (string_bytes k))) es ≡ Some (get_or vs i d).1.now)
  there [] es x i d l low h f = absurd (omega arith)
  there (v ∷ vs) [] x i d l low h f = cc
  there (v ∷ vs) (e ∷ es) x zero d l low h f =
      let g = ap (λ n. is_eq (slice_cmp nat_cmp x n)) (first_name v vs e es l) ∙ h in
      (cond_is _ true _ _ g refl, cond_is _ true _ _ g (ap (λ t. Some (get_or t 0 (deref_pair v)).1) (sym l)))
  there (v ∷ vs) (e ∷ es) x (suc i) d l low h f =
      let g = ap (λ n. is_eq (slice_cmp nat_cmp x n)) (first_name v vs e es l) ∙ f 0 (omega arith) in
      let t = there vs es x i d (ap (drop 1) l) (omega arith) h (λ k l. f (suc k) (omega arith)) in
      (cond_is _ false _ _ g (ap (λ o. option_map (λ i. suc i) o) t.0), cond_is _ false _ _ g t.1)

  pub search_hit : (vs : List (Bor (List ℕ) × Bor X)) (es : List (String A × X)) (x : List ℕ) (i : ℕ) (d : Bor (List ℕ) × Bor X) → AreEntries es vs → AreInOrder vs → i < length vs → slice_cmp nat_cmp (get_or vs i d).0.now x ≡ Equal → (place_in es x ≡ Some i) × (lookup (λ k. is_eq (slice_cmp nat_cmp x (string_bytes k))) es ≡ Some (get_or vs i d).1.now)
  search_hit vs es x i d l o low e =
      there vs es x i d l low (ap is_eq (total.antisymm x (get_or vs i d).0.now ∙ ap ordering_reverse e))
      (λ k h. ap is_eq (sym (total.congr (get_or vs i d).0.now x (get_or vs k d).0.now e) ∙ less_greater (get_or vs k d).0.now (get_or vs i d).0.now (Less-from_sorted _ vs k i d o h low)))

  pub search_miss : (vs : List (Bor (List ℕ) × Bor X)) (es : List (String A × X)) (x : List ℕ) (i : ℕ) → AreEntries es vs → AllWithin (λ y. slice_cmp nat_cmp y.0.now x ≡ Less) vs 0 i → AllWithin (λ y. slice_cmp nat_cmp y.0.now x ≡ Greater) vs i (length vs) → (place_in es x ≡ None) × (lookup (λ k. is_eq (slice_cmp nat_cmp x (string_bytes k))) es ≡ None)
  search_miss vs es x i l below above =
      none_there vs es x l (λ k d low. elim (cases_lt k i) [
        | inl h ↦ ap is_eq (less_greater (get_or vs k d).0.now x (below k d (omega arith) h))
        | inr h ↦ ap is_eq (total.antisymm x (get_or vs k d).0.now ∙ ap ordering_reverse (above k d h low))
      ])

pub at_replicate : {Y : Type 0} (a : Y) (n i : ℕ) → i < n → slice_get (replicate n a) i ≡ Some a
at_replicate a zero i low = absurd (omega arith)
at_replicate a (suc n) zero low = refl
at_replicate a (suc n) (suc i) low = at_replicate a n i (omega arith)
