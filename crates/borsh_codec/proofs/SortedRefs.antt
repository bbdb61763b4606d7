-- The ascending list of a map's entries is the only one in which they ascend.
use Rattle.std.proofs.Common.{◌≡◌, ℕ, zero, suc, ◌+◌, ◌<◌, Bool, true, false, List, [], ◌∷◌, length, get_or, refl, sym, ◌∙◌, ap, subst, arith}
use Rattle.std.specs.declared.cmp.Ordering.{Ordering}
use Rattle.std.specs.declared.cmp.Ordering.TheVariants.{Less, Equal, Greater}
use Rattle.std.specs.Ordering.{is_lt, is_eq, eq_by_cmp, ordering_reverse, match_ordering}
use Rattle.std.specs.Cmp.{IsTotalOrder, tied_itself, eq_by_cmp_equiv}
use Rattle.std.specs.Map.{keys_of}
use Rattle.std.specs.BTreeMap.{insert_entry}
use Rattle.std.specs.List.{AllByRecursion, Contains, IsDistinct}
use Rattle.std.specs.List.Sorted.{IsStrictlySortedBy, IsPermutation, IsSortedBy}
use Rattle.std.proofs.lemmas.List.{get_or-map, length-map}
use Rattle.std.proofs.Common.{map}
use Rattle.std.proofs.lemmas.List.Sorted.{IsPermutation-refl, IsPermutation-cons, IsPermutation-trans, IsPermutation-sym, IsPermutation-middle, IsPermutation-map, Contains-permutation}
use Rattle.std.proofs.lemmas.Map.Made.{Contains-tail}
use Rattle.std.proofs.lemmas.Map.Keys.{sorted_head, sorted_tail, sorted_from_all_adjacent, apart_from_distinct, IsDistinct-IsPermutation}
use Rattle.borsh_codec.specs.Maps.{sorted_by_key, unit_entries}
use Rattle.borsh_codec.proofs.Laws.Maps.Entries.{by_key_ascends, all_inserted}

module _ {X : Type 0} (P : X → Type 0) where
  at_place : (es : List X) (e : X) (k : ℕ) → AllByRecursion P es → k < length es → get_or es k e ≡ e → P e
  at_place [] e k a l i = absurd (let n : k < 0 = l in omega arith)
  at_place (x ∷ es) e zero a l i = subst P i a.0
  at_place (x ∷ es) e (suc k) a l i = at_place es e k a.1 (let n : suc k < suc (length es) = l in omega arith) i

  at_contained : (es : List X) (e : X) → AllByRecursion P es → Contains es e → P e
  at_contained es e a c = at_place es e c.0 a c.1 c.2

contains_head : {X : Type 0} (x : X) (es : List X) → Contains (x ∷ es) x
contains_head x es = (0, omega arith, refl)

contains_more : {X : Type 0} (x : X) (es : List X) (e : X) → Contains es e → Contains (x ∷ es) e
contains_more x es e c = (suc c.0, (let l : c.0 < length es = c.1 in omega arith), c.2)

below_entries : {K V : Type 0} (P : K → Type 0) (es : List (K × V)) → AllByRecursion P (keys_of es) → AllByRecursion (λ e. P e.0) es
below_entries P [] a = tt
below_entries P (e ∷ es) a = (a.0, below_entries P es a.1)

not_below : {K : Type 0} {R : K → K → Ordering} → IsTotalOrder R → (k : K) → R k k ≡ Less → ⊥
not_below {K} {R} o k i = let j : R k k ≡ Equal = tied_itself o k in cc

module _ {K V : Type 0} {R : K → K → Ordering} (o : IsTotalOrder R) where
  heads : (x : K × V) (xs : List (K × V)) (y : K × V) (ys : List (K × V)) → IsStrictlySortedBy R (keys_of (x ∷ xs)) → IsStrictlySortedBy R (keys_of (y ∷ ys)) → Contains (y ∷ ys) x → Contains (x ∷ xs) y → (R x.0 y.0 ≡ Equal) × (x ≡ y)
  heads x xs y ys s t a b = by (R x.0 y.0) refl
    where
      past_y : AllByRecursion (λ e. R y.0 e.0 ≡ Less) ys
      past_y = below_entries (λ k. R y.0 k ≡ Less) ys (sorted_head R y.0 (keys_of ys) t)

      past_x : AllByRecursion (λ e. R x.0 e.0 ≡ Less) xs
      past_x = below_entries (λ k. R x.0 k ≡ Less) xs (sorted_head R x.0 (keys_of xs) s)

      chain_all : (k l : K) → R k l ≡ Less → (es : List (K × V)) → AllByRecursion (λ e. R l e.0 ≡ Less) es → AllByRecursion (λ e. R k e.0 ≡ Less) es
      chain_all k l i [] h = tt
      chain_all k l i (e ∷ es) h = (o.trans k l e.0 i h.0, chain_all k l i es h.1)

      by : (r : Ordering) → R x.0 y.0 ≡ r → (R x.0 y.0 ≡ Equal) × (x ≡ y)
      by Less i = absurd (not_below o x.0 (at_contained (λ e. R x.0 e.0 ≡ Less) (y ∷ ys) x (i, chain_all x.0 y.0 i ys past_y) a))
      by Greater i =
          let j : R y.0 x.0 ≡ Less = o.antisymm y.0 x.0 ∙ ap ordering_reverse i in
          absurd (not_below o y.0 (at_contained (λ e. R y.0 e.0 ≡ Less) (x ∷ xs) y (j, chain_all y.0 x.0 j xs past_x) b))
      by Equal i = (i, place a.0 a.1 a.2)
        where
          place : (k : ℕ) → k < length (y ∷ ys) → get_or (y ∷ ys) k x ≡ x → x ≡ y
          place zero l e = sym e
          place (suc k) l e =
              let less : R y.0 x.0 ≡ Less = at_place (λ e. R y.0 e.0 ≡ Less) ys x k past_y (let n : suc k < suc (length ys) = l in omega arith) e in
              let back : R x.0 y.0 ≡ Greater = o.antisymm x.0 y.0 ∙ ap ordering_reverse less in
              absurd (cc)

  pub unique : (xs ys : List (K × V)) → IsStrictlySortedBy R (keys_of xs) → IsStrictlySortedBy R (keys_of ys) → ((e : K × V) → Contains xs e → Contains ys e) → ((e : K × V) → Contains ys e → Contains xs e) → xs ≡ ys
  unique [] [] s t f g = refl
  unique [] (y ∷ ys) s t f g = absurd (let c = g y (contains_head y ys) in let l : c.0 < 0 = c.1 in omega arith)
  unique (x ∷ xs) [] s t f g = absurd (let c = f x (contains_head x xs) in let l : c.0 < 0 = c.1 in omega arith)
  unique (x ∷ xs) (y ∷ ys) s t f g =
      let both = heads x xs y ys s t (f x (contains_head x xs)) (g y (contains_head y ys)) in
      let past_x = below_entries (λ k. R x.0 k ≡ Less) xs (sorted_head R x.0 (keys_of xs) s) in
      let past_y = below_entries (λ k. R y.0 k ≡ Less) ys (sorted_head R y.0 (keys_of ys) t) in
      let level : R x.0 y.0 ≡ Equal = both.0 in
      let there : (e : K × V) → Contains xs e → Contains ys e = λ e c. Contains-tail y ys e (λ i. let l : R x.0 e.0 ≡ Less = at_contained (λ e. R x.0 e.0 ≡ Less) xs e past_x c in let m : R x.0 y.0 ≡ R x.0 e.0 = ap (λ p. R x.0 p.0) i in cc) (f e (contains_more x xs e c)) in
      let back : (e : K × V) → Contains ys e → Contains xs e = λ e c. Contains-tail x xs e (λ i. let l : R y.0 e.0 ≡ Less = at_contained (λ e. R y.0 e.0 ≡ Less) ys e past_y c in let m : R y.0 x.0 ≡ R y.0 e.0 = ap (λ p. R y.0 p.0) i in let n : R y.0 x.0 ≡ R y.0 y.0 = ap (λ p. R y.0 p.0) both.1 in not_below o y.0 (sym n ∙ m ∙ l)) (g e (contains_more y ys e c)) in
      ap (λ p. p ∷ xs) both.1 ∙ ap (λ l. y ∷ l) (unique xs ys (sorted_tail R x.0 (keys_of xs) s) (sorted_tail R y.0 (keys_of ys) t) there back)

  insert_permutes : (k : K) (v : V) (es : List (K × V)) → AllByRecursion (λ y. eq_by_cmp R k y ≡ false) (keys_of es) → IsPermutation ((k, v) ∷ es) (insert_entry R es k v)
  insert_permutes k v [] a = IsPermutation-refl ((k, v) ∷ [])
  insert_permutes k v (e ∷ es) a = by (insert_permutes k v es a.1) (R k e.0) refl
    where
      by : IsPermutation ((k, v) ∷ es) (insert_entry R es k v) → (r : Ordering) → R k e.0 ≡ r → IsPermutation ((k, v) ∷ e ∷ es) (match_ordering r ((k, v) ∷ e ∷ es) ((e.0, v) ∷ es) (e ∷ insert_entry R es k v))
      by h Less i = IsPermutation-refl ((k, v) ∷ e ∷ es)
      by h Equal i = absurd (let n : is_eq (R k e.0) ≡ true = ap is_eq i in let m : is_eq (R k e.0) ≡ false = a.0 in cc)
      by h Greater i = IsPermutation-trans ((k, v) ∷ e ∷ es) (e ∷ (k, v) ∷ es) (e ∷ insert_entry R es k v) (IsPermutation-middle ((k, v) ∷ []) e es) (IsPermutation-cons e ((k, v) ∷ es) (insert_entry R es k v) h)

  pub all_by_key : (P : K → Type 0) (es : List (K × V)) → AllByRecursion P (keys_of es) → AllByRecursion P (keys_of (sorted_by_key R es))
  all_by_key P [] a = tt
  all_by_key P (e ∷ es) a = all_inserted R P (sorted_by_key R es) e.0 e.1 (all_by_key P es a.1) a.0

  pub by_key_permutes : (es : List (K × V)) → IsDistinct (eq_by_cmp R) (keys_of es) → IsPermutation es (sorted_by_key R es)
  unfolding IsDistinct
  by_key_permutes [] d = IsPermutation-refl []
  by_key_permutes (e ∷ es) d = IsPermutation-trans (e ∷ es) (e ∷ sorted_by_key R es) (sorted_by_key R (e ∷ es)) (IsPermutation-cons e es (sorted_by_key R es) (by_key_permutes es d.1)) (insert_permutes e.0 e.1 (sorted_by_key R es) (all_by_key (λ y. eq_by_cmp R e.0 y ≡ false) es d.0))

  -- a map's entries in ascending order are `sorted` of them
  pub ascending_is_by_key : (es fs : List (K × V)) → IsDistinct (eq_by_cmp R) (keys_of es) → IsPermutation es fs → IsStrictlySortedBy R (keys_of fs) → fs ≡ sorted_by_key R es
  ascending_is_by_key es fs d p s =
      let q : IsPermutation fs (sorted_by_key R es) = IsPermutation-trans fs es (sorted_by_key R es) (IsPermutation-sym es fs p) (by_key_permutes es d) in
      unique fs (sorted_by_key R es) s (by_key_ascends o es) (λ e. Contains-permutation fs (sorted_by_key R es) e q) (λ e. Contains-permutation (sorted_by_key R es) fs e (IsPermutation-sym fs (sorted_by_key R es) q))

-- ---- after a sort by the keys

open_keys : {K V X : Type 0} (f : X → K × V) (xs : List X) → keys_of (map f xs) ≡ map (λ x. (f x).0) xs
open_keys f [] = refl
open_keys f (x ∷ xs) = ap (λ l. (f x).0 ∷ l) (open_keys f xs)

module _ {K X : Type 0} {R : K → K → Ordering} (o : IsTotalOrder R) (key : X → K) where
  rises : (r s : Ordering) → r ≡ ordering_reverse s → is_lt s ≡ false → is_eq r ≡ false → r ≡ Less
  rises Less s i j k = refl
  rises Equal s i j k = absurd (cc)
  rises Greater Less i j k = absurd (cc)
  rises Greater Equal i j k = absurd (let e : Greater ≡ Equal = i in cc)
  rises Greater Greater i j k = absurd (let e : Greater ≡ Less = i in cc)

  pub strictly_sorted : (xs : List X) → IsSortedBy (λ x y. is_lt (R (key x) (key y))) xs → IsDistinct (eq_by_cmp R) (map key xs) → IsStrictlySortedBy R (map key xs)
  unfolding IsStrictlySortedBy
  strictly_sorted [] s d = tt
  strictly_sorted (x ∷ xs) s d = sorted_from_all_adjacent o (map key (x ∷ xs)) (key x) step
    where
      step : (k : ℕ) → k + 1 < length (map key (x ∷ xs)) → R (get_or (map key (x ∷ xs)) k (key x)) (get_or (map key (x ∷ xs)) (k + 1) (key x)) ≡ Less
      step k l =
          let long : k + 1 < length (x ∷ xs) = omega (arith, length-map (x ∷ xs) key) in
          let before : k < length (x ∷ xs) = omega arith in
          let a : get_or (map key (x ∷ xs)) k (key x) ≡ key (get_or (x ∷ xs) k x) = get_or-map key (x ∷ xs) k x (key x) before in
          let b : get_or (map key (x ∷ xs)) (k + 1) (key x) ≡ key (get_or (x ∷ xs) (k + 1) x) = get_or-map key (x ∷ xs) (k + 1) x (key x) long in
          let up = s k x (omega arith) long in
          let apart = apart_from_distinct (eq_by_cmp R) (map key (x ∷ xs)) k (k + 1) (key x) d (omega arith) l in
          let up2 : is_lt (R (get_or (map key (x ∷ xs)) (k + 1) (key x)) (get_or (map key (x ∷ xs)) k (key x))) ≡ false =
          ap (λ p. is_lt (R p (get_or (map key (x ∷ xs)) k (key x)))) b ∙ ap (λ q. is_lt (R (key (get_or (x ∷ xs) (k + 1) x)) q)) a ∙ up in
          rises (R (get_or (map key (x ∷ xs)) k (key x)) (get_or (map key (x ∷ xs)) (k + 1) (key x))) (R (get_or (map key (x ∷ xs)) (k + 1) (key x)) (get_or (map key (x ∷ xs)) k (key x))) (o.antisymm (get_or (map key (x ∷ xs)) k (key x)) (get_or (map key (x ∷ xs)) (k + 1) (key x))) up2 apart

-- references to a map's entries, sorted by the keys
pub sorted_refs : {K V X : Type 0} {R : K → K → Ordering} (o : IsTotalOrder R) (eq : K → K → Bool) (t : (x y : K) → eq x y ≡ is_eq (R x y)) (f : X → K × V) (es : List (K × V)) (all sorts : List X)
    → IsDistinct eq (keys_of es) → map f all ≡ es → IsPermutation all sorts → IsSortedBy (λ x y. is_lt (R (f x).0 (f y).0)) sorts → map f sorts ≡ sorted_by_key R es
sorted_refs {K} {V} {X} {R} o eq t f es all sorts d i p s =
    let e : IsDistinct (eq_by_cmp R) (keys_of es) = subst (λ (E : K → K → Bool). IsDistinct E (keys_of es)) (λ i x y. t x y i) d in
    let q : IsPermutation es (map f sorts) = subst (λ l. IsPermutation l (map f sorts)) i (IsPermutation-map f all sorts p) in
    let dist : IsDistinct (eq_by_cmp R) (keys_of (map f sorts)) = IsDistinct-IsPermutation (eq_by_cmp R) (eq_by_cmp_equiv o).symm (keys_of es) (keys_of (map f sorts)) (IsPermutation-map (λ p. p.0) es (map f sorts) q) e in
    let up : IsStrictlySortedBy R (keys_of (map f sorts)) = subst (IsStrictlySortedBy R) (sym (open_keys f sorts)) (strictly_sorted o (λ x. (f x).0) sorts s (subst (IsDistinct (eq_by_cmp R)) (open_keys f sorts) dist)) in
    ascending_is_by_key o es (map f sorts) e q up

keys_bare : {K : Type 0} (ks : List K) → keys_of (unit_entries ks) ≡ ks
keys_bare [] = refl
keys_bare (k ∷ ks) = ap (λ l. k ∷ l) (keys_bare ks)

map_bare : {K X : Type 0} (f : X → K) (xs : List X) → map (λ x. (f x, tt)) xs ≡ unit_entries (map f xs)
map_bare f [] = refl
map_bare f (x ∷ xs) = ap (λ l. (f x, tt) ∷ l) (map_bare f xs)

-- references to a set's keys, sorted
pub sorted_key_refs : {K X : Type 0} {R : K → K → Ordering} (o : IsTotalOrder R) (eq : K → K → Bool) (t : (x y : K) → eq x y ≡ is_eq (R x y)) (f : X → K) (ks : List K) (all sorts : List X)
    → IsDistinct eq ks → map f all ≡ ks → IsPermutation all sorts → IsSortedBy (λ x y. is_lt (R (f x) (f y))) sorts → map (λ x. (f x, tt)) sorts ≡ sorted_by_key R (unit_entries ks)
sorted_key_refs {K} {X} {R} o eq t f ks all sorts d i p s =
    sorted_refs o eq t (λ x. (f x, tt)) (unit_entries ks) all sorts (subst (IsDistinct eq) (sym (keys_bare ks)) d) (map_bare f all ∙ ap unit_entries i) p s
