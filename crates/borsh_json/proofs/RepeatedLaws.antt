-- Names that are sorted, and of which no two neighbours are equal.
use Rattle.std.proofs.{Common.{◌≡◌, ℕ, suc, zero, ◌+◌, ◌<◌, List, [], ◌∷◌, ◌++◌, length, map, take, Bool, true, false, ◌≤◌, cond, get_or, refl, sym, ◌∙◌, ap, subst, arith, Bor, bytes_eq, Ordering, Less, Equal, Greater}, Math.Path.{fun_ext}, lemmas.Cmp.{nat_list_cmp_total, nat_list_eq_equiv}, lemmas.List.Sorted.{IsPermutation-sym, sum_by-IsPermutation}, lemmas.Map.Keys.{IsDistinct-from_sorted, IsDistinct-IsPermutation, apart_from_distinct, sorted_from_all_adjacent}, lemmas.Map.Text.{is_eq-slice_cmp}}
use Rattle.std.specs.{Cmp.Lexicographic.{on_texts}, List.{AllByRecursion, IsDistinct, fold}, List.Sorted.{IsPermutation, IsSorted, IsStrictlySortedBy}, Ordering.{is_eq, is_lt, ordering_reverse}}
use Rattle.borsh_json.specs.Table.{ComesTwice}
use Rattle.borsh_json.proofs.MemberLaws.{text_cmp}

abbrev pub Text : Type 0
Text = Bor (List ℕ)

abbrev pub same_text : Text → Text → Bool
same_text a b = bytes_eq a.now b.now

text_turns : (a b : Text) → same_text a b ≡ same_text b a
text_turns a b = nat_list_eq_equiv.symm a.now b.now

-- ---- names and their bytes
all_to : (P : List ℕ → Type 0) (ks : List Text) → AllByRecursion (λ (k : Text). P k.now) ks → AllByRecursion P (map (λ (k : Text). k.now) ks)
all_to P [] h = tt
all_to P (k ∷ ks) h = (h.0, all_to P ks h.1)

all_from : (P : List ℕ → Type 0) (ks : List Text) → AllByRecursion P (map (λ (k : Text). k.now) ks) → AllByRecursion (λ (k : Text). P k.now) ks
all_from P [] h = tt
all_from P (k ∷ ks) h = (h.0, all_from P ks h.1)

distinct_to : (ks : List Text) → IsDistinct same_text ks → IsDistinct bytes_eq (map (λ (k : Text). k.now) ks)
unfolding IsDistinct
distinct_to [] h = tt
distinct_to (k ∷ ks) h = (all_to (λ y. bytes_eq k.now y ≡ false) ks h.0, distinct_to ks h.1)

distinct_from : (ks : List Text) → IsDistinct bytes_eq (map (λ (k : Text). k.now) ks) → IsDistinct same_text ks
unfolding IsDistinct
distinct_from [] h = tt
distinct_from (k ∷ ks) h = (all_from (λ y. bytes_eq k.now y ≡ false) ks h.0, distinct_from ks h.1)

-- ---- neighbours
less_case : (a b : Text) (o : Ordering) → text_cmp a b ≡ o → is_lt (text_cmp b a) ≡ false → same_text a b ≡ false → o ≡ Less
less_case a b Less e l n = refl
less_case a b Equal e l n = let z : true ≡ false = sym (ap is_eq e) ∙ is_eq-slice_cmp a.now b.now ∙ n in cc
less_case a b Greater e l n = let z : true ≡ false = sym (ap is_lt (nat_list_cmp_total.antisymm b.now a.now ∙ ap ordering_reverse e)) ∙ l in cc

-- the first neighbours up to an index are apart
abbrev pub AreApart : List Text → ℕ → Type 0
AreApart ks i = (k : ℕ) (d : Text) → k + 1 < i → same_text (get_or ks k d) (get_or ks (k + 1) d) ≡ false

sorted_apart : (ks : List Text) → IsSorted text_cmp ks → AreApart ks (length ks) → IsDistinct same_text ks
unfolding IsDistinct
sorted_apart [] s a = tt
sorted_apart (x ∷ xs) s a =
    let ks = x ∷ xs in
    let up : IsStrictlySortedBy text_cmp ks = sorted_from_all_adjacent (on_texts (λ (k : Text). k.now)) ks x (λ k h. less_case (get_or ks k x) (get_or ks (k + 1) x) (text_cmp (get_or ks k x) (get_or ks (k + 1) x)) refl (s k x (omega arith) h) (a k x h)) in
    subst (λ (e : Text → Text → Bool). IsDistinct e ks) (fun_ext (λ a. fun_ext (λ b. is_eq-slice_cmp a.now b.now))) (IsDistinct-from_sorted text_cmp ks up)

-- ---- how many elements a test takes
some_more : {A : Type 0} (f : A → ℕ) (xs : List A) (n : ℕ) → n ≤ fold (λ a x. a + f x) n xs
some_more f [] n = omega arith
some_more f (x ∷ xs) n = let r = some_more f xs (n + f x) in omega (arith, r)

one_more : {A : Type 0} (f : A → ℕ) (xs : List A) (n j : ℕ) (d : A) → j < length xs → f (get_or xs j d) ≡ 1 → n + 1 ≤ fold (λ a x. a + f x) n xs
one_more f [] n j d h e = absurd (omega (arith, h))
one_more f (x ∷ xs) n zero d h e = let r = some_more f xs (n + f x) in omega (arith, r, e)
one_more f (x ∷ xs) n (suc j) d h e = let r = one_more f xs (n + f x) j d (omega (arith, h)) e in omega (arith, r)

two_more : {A : Type 0} (f : A → ℕ) (xs : List A) (n i j : ℕ) (d : A) → i < j → j < length xs → f (get_or xs i d) ≡ 1 → f (get_or xs j d) ≡ 1 → n + 2 ≤ fold (λ a x. a + f x) n xs
two_more f [] n i j d a h p q = absurd (omega (arith, h))
two_more f (x ∷ xs) n i zero d a h p q = absurd (omega (arith, a))
two_more f (x ∷ xs) n zero (suc j) d a h p q = let r = one_more f xs (n + f x) j d (omega (arith, h)) q in omega (arith, r, p)
two_more f (x ∷ xs) n (suc i) (suc j) d a h p q = let r = two_more f xs (n + f x) i j d (omega (arith, a)) (omega (arith, h)) p q in omega (arith, r)

mapped_sum : {A B : Type 0} (g : A → B) (f : B → ℕ) (xs : List A) (n : ℕ) → fold (λ a x. a + f x) n (map g xs) ≡ fold (λ a x. a + f (g x)) n xs
mapped_sum g f [] n = refl
mapped_sum g f (x ∷ xs) n = mapped_sum g f xs (n + f (g x))

module _ (names ks : List Text) (p : IsPermutation names ks) where
  pub none_repeated : IsSorted text_cmp ks → AreApart ks (length ks) → IsDistinct bytes_eq (map (λ (k : Text). k.now) names)
  none_repeated s a = distinct_to names (IsDistinct-IsPermutation same_text text_turns ks names (IsPermutation-sym names ks p) (sorted_apart ks s a))

  pub one_repeated : (i j : ℕ) (d : Text) → i < j → j < length ks → same_text (get_or ks i d) (get_or ks j d) ≡ true → (IsDistinct bytes_eq (map (λ (k : Text). k.now) names) → ⊥)
  one_repeated i j d h l e n =
      let a = apart_from_distinct same_text ks i j d (IsDistinct-IsPermutation same_text text_turns names ks p (distinct_from names n)) h l in
      let z : true ≡ false = sym e ∙ a in
      cc

  pub comes_twice : (i j : ℕ) (d : Text) → i < j → j < length ks → d ≡ get_or ks j d → same_text (get_or ks i d) (get_or ks j d) ≡ true → ComesTwice d.now (map (λ (k : Text). k.now) names)
  comes_twice i j d h l is e =
      let once : Text → ℕ = λ k. cond (same_text k d) 1 0 in
      let first : once (get_or ks i d) ≡ 1 = ap (λ b. cond b 1 0) (ap (λ k. same_text (get_or ks i d) k) is ∙ e) in
      let second : once (get_or ks j d) ≡ 1 = ap (λ b. cond b 1 0) (ap (λ k. same_text k d) (sym is) ∙ nat_list_eq_equiv.refl d.now) in
      let t = two_more once ks 0 i j d h l first second in
      let m = sum_by-IsPermutation once names ks p in
      let q = mapped_sum (λ (k : Text). k.now) (λ n. cond (bytes_eq n d.now) 1 0) names 0 in
      omega (arith, t, m, q)

-- the list at an index
pub taken_more : {A : Type 0} (f : A → List ℕ) (items : List A) (i : ℕ) (x : A) → i < length items → x ≡ get_or items i x → take (i + 1) (map f items) ≡ take i (map f items) ++ f x ∷ []
taken_more f [] i x h e = absurd (omega (arith, h))
taken_more f (y ∷ items) zero x h e = ap (λ y. f y ∷ []) (sym e)
taken_more f (y ∷ items) (suc i) x h e =
    let q : suc i + 1 ≡ suc (i + 1) = omega arith in
    ap (λ k. take k (f y ∷ map f items)) q ∙ ap (λ l. f y ∷ l) (taken_more f items i x (omega (arith, h)) e)
