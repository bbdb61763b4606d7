-- Objects in which no key comes twice.
use Rattle.std.proofs.{Common.{◌≡◌, ◌⊎◌, inl, inr, ℕ, List, [], ◌∷◌, ◌++◌, length, map, Bool, true, false, Option, Some, None, refl, sym, ◌∙◌, ap, subst, arith, length-append, IsSome, cond, is_some, ◌||◌, option_map, option_and_then, nat_cmp, int_cmp, bytes_eq, Less, Equal}, lemmas.Cmp.{nat_list_cmp_total, nat_list_eq_equiv, int_cmp_total, tied_itself}, lemmas.List.Folds.{list_any-append}, lemmas.List.Sorted.{IsPermutation-sym}, lemmas.Map.Keys.{IsDistinct-cons, IsDistinct-head, IsDistinct-tail, IsDistinct-IsPermutation}, lemmas.Map.Made.{length-le_from_is_member}, lemmas.Slice.Eq.{bytes_eq-Decides}}
use Rattle.std.specs.{Cmp.Lexicographic.{slice_cmp}, List.{AllByRecursion, IsDistinct, list_any}, List.Sorted.{IsPermutation, IsStrictlySortedBy}, Str.Parse.{signed_digits_value}}
use Rattle.json.specs.{Json.{Json, Members, no_members, member}, Find.{get_member, later_or}}
use Rattle.borsh_json.specs.{Frames.{HaveOneEach}, Table.{Keys, texts, numbers, Part, field_parts, Entry, entries_of, key_order}}
use Rattle.borsh_json.proofs.{FrameLaws.{length_map}, MemberLaws.{or_true}, ReaderLaws.{mapped}}

-- ---- keys that ascend
abbrev same_key : Entry → Entry → Bool
same_key a b = bytes_eq a.0 b.0

key_turns : (a b : Entry) → same_key a b ≡ same_key b a
key_turns a b = nat_list_eq_equiv.symm a.0 b.0

or_false : (a b : Bool) → a ≡ false → b ≡ false → (a || b) ≡ false
or_false a b e f = ap (λ a. a || b) e ∙ f

all_middle : {X : Type 0} (P : X → Type 0) (xs ys : List X) (e : X) → AllByRecursion P (xs ++ e ∷ ys) → P e
all_middle P [] ys e h = h.0
all_middle P (x ∷ xs) ys e h = all_middle P xs ys e h.1

distinct_each : (xs ys : List Entry) (e : Entry) → IsDistinct same_key (xs ++ e ∷ ys) → list_any (λ (x : Entry). bytes_eq e.0 x.0) xs ≡ false
distinct_each [] ys e d = refl
distinct_each (x ∷ xs) ys e d = or_false (bytes_eq e.0 x.0) (list_any (λ (x : Entry). bytes_eq e.0 x.0) xs) (key_turns e x ∙ all_middle (λ y. same_key x y ≡ false) xs ys e (IsDistinct-head same_key x (xs ++ e ∷ ys) d)) (distinct_each xs ys e (IsDistinct-tail same_key x (xs ++ e ∷ ys) d))

same_order : (keys : Keys) (a b : Entry) → a.0 ≡ b.0 → key_order keys a b ≡ Equal
same_order texts a b e = ap (λ s. slice_cmp nat_cmp a.0 s) (sym e) ∙ tied_itself nat_list_cmp_total a.0
same_order (numbers n) a b e = ap (λ s. int_cmp (signed_digits_value 10 a.0) (signed_digits_value 10 s)) (sym e) ∙ tied_itself int_cmp_total (signed_digits_value 10 a.0)

apart_if : (keys : Keys) (a b : Entry) → key_order keys a b ≡ Less → (t : Bool) → same_key a b ≡ t → t ≡ false
apart_if keys a b l true t = let z : Less ≡ Equal = sym l ∙ same_order keys a b ((bytes_eq-Decides a.0 b.0).0 t) in cc
apart_if keys a b l false t = refl

apart_all : (keys : Keys) (d : Entry) (es : List Entry) → AllByRecursion (λ e. key_order keys d e ≡ Less) es → AllByRecursion (λ e. same_key d e ≡ false) es
apart_all keys d [] h = tt
apart_all keys d (e ∷ es) h = (apart_if keys d e h.0 (same_key d e) refl, apart_all keys d es h.1)

distinct_sorted : (keys : Keys) (es : List Entry) → IsStrictlySortedBy (key_order keys) es → IsDistinct same_key es
unfolding IsStrictlySortedBy IsDistinct
distinct_sorted keys [] h = tt
distinct_sorted keys (e ∷ es) h = (apart_all keys e es h.0, distinct_sorted keys es h.1)

pub sorted_each : (keys : Keys) (ms es : List Entry) → IsPermutation ms es → IsStrictlySortedBy (key_order keys) es → HaveOneEach ms
sorted_each keys ms es p s = λ xs ys e q. distinct_each xs ys e (subst (λ (l : List Entry). IsDistinct same_key l) q (IsDistinct-IsPermutation same_key key_turns es ms (IsPermutation-sym ms es p) (distinct_sorted keys es s)))

-- ---- as many members as fields, each of which is found
any_cases : (a b : Bool) → (a || b) ≡ true → (a ≡ true) ⊎ (b ≡ true)
any_cases true b e = inl refl
any_cases false b e = inr e

any_map : (test : List ℕ → Bool) (es : List Entry) → list_any test (map (λ (e : Entry). e.0) es) ≡ list_any (λ (e : Entry). test e.0) es
any_map test [] = refl
any_map test (e ∷ es) = ap (λ b. test e.0 || b) (any_map test es)

chosen : {A B C : Type 0} (o : Option A) (h : A → B → C) (p : Option B) {c : C} → option_and_then (λ a. option_map (h a) p) o ≡ Some c → (is_some o ≡ true) × (b : B) × (p ≡ Some b)
chosen None h p e = let z : ⊥ = cc in absurd z
chosen (Some a) h p e = let m = mapped (h a) p e in (refl, m.0, m.1)

field_found : (n : List ℕ) (fs : List (List ℕ × List ℕ)) (ms : Members) (ps : List Part) → field_parts fs ms ≡ Some ps → list_any (bytes_eq n) (map (λ f. f.0) fs) ≡ true → is_some (get_member n ms) ≡ true
field_found n [] ms ps e i = cc
field_found n (f ∷ fs) ms ps e i =
    let c = chosen (get_member f.0 ms) (λ (j : Json) (ps : List Part). (f.1, j) ∷ ps) (field_parts fs ms) e in
    elim (any_cases (bytes_eq n f.0) (list_any (bytes_eq n) (map (λ f. f.0) fs)) i) [
      | inl q ↦ ap (λ s. is_some (get_member s ms)) ((bytes_eq-Decides n f.0).0 q) ∙ c.0
      | inr q ↦ field_found n fs ms c.1 c.2 q
    ]

later_case : (o : Option Json) (b : Bool) (j : Json) → is_some (later_or o (cond b (Some j) None)) ≡ true → (is_some o ≡ true) ⊎ (b ≡ true)
later_case (Some i) b j e = inl refl
later_case None true j e = inr refl
later_case None false j e = let z : ⊥ = cc in absurd z

member_any : (n : List ℕ) (ms : Members) → is_some (get_member n ms) ≡ true → list_any (λ (e : Entry). bytes_eq n e.0) (entries_of ms) ≡ true
member_any n no_members e = cc
member_any n (member k j ms) e =
    let rest = list_any (λ (e : Entry). bytes_eq n e.0) (entries_of ms) in
    elim (later_case (get_member n ms) (bytes_eq k n) j e) [
      | inl q ↦ ap (λ b. bytes_eq n k || b) (member_any n ms q) ∙ or_true (bytes_eq n k)
      | inr q ↦ ap (λ b. b || rest) (nat_list_eq_equiv.symm n k ∙ q)
    ]

-- a key that comes again may be left out
without : (n : List ℕ) (xs ys : List Entry) (m : Entry) → list_any (λ (x : Entry). bytes_eq m.0 x.0) xs ≡ true → list_any (λ (e : Entry). bytes_eq n e.0) (xs ++ m ∷ ys) ≡ true → list_any (λ (e : Entry). bytes_eq n e.0) (xs ++ ys) ≡ true
without n xs ys m a i =
    let test : Entry → Bool = λ e. bytes_eq n e.0 in
    let both = list_any-append test xs ys in
    elim (any_cases (list_any test xs) (test m || list_any test ys) (sym (list_any-append test xs (m ∷ ys)) ∙ i)) [
      | inl q ↦ both ∙ ap (λ b. b || list_any test ys) q
      | inr r ↦ elim (any_cases (test m) (list_any test ys) r) [
        | inl q ↦ both ∙ ap (λ b. b || list_any test ys) (ap (λ s. list_any (λ (x : Entry). bytes_eq s x.0) xs) ((bytes_eq-Decides n m.0).0 q) ∙ a)
        | inr q ↦ both ∙ ap (λ b. list_any test xs || b) q ∙ or_true (list_any test xs)
      ]
    ]

-- a name that no field has
neither : (a b : Bool) → (a || b) ≡ false → (a ≡ false) × (b ≡ false)
neither true b e = let z : ⊥ = cc in absurd z
neither false b e = (refl, e)

none_is : (name : List ℕ) (fs : List (List ℕ × List ℕ)) → list_any (λ (f : List ℕ × List ℕ). bytes_eq name f.0) fs ≡ false → AllByRecursion (λ y. bytes_eq name y ≡ false) (map (λ (f : List ℕ × List ℕ). f.0) fs)
none_is name [] e = tt
none_is name (f ∷ fs) e = let n = neither (bytes_eq name f.0) (list_any (λ (f : List ℕ × List ℕ). bytes_eq name f.0) fs) e in (n.0, none_is name fs n.1)

module _ (fs : List (List ℕ × List ℕ)) (ms : Members) (ps : List Part) (d : IsDistinct bytes_eq (map (λ (f : List ℕ × List ℕ). f.0) fs)) (l : length (entries_of ms) ≡ length fs) (e : field_parts fs ms ≡ Some ps) where
  field_case : (xs ys : List Entry) (m : Entry) → entries_of ms ≡ xs ++ m ∷ ys → (b : Bool) → list_any (λ (x : Entry). bytes_eq m.0 x.0) xs ≡ b → b ≡ false
  field_case xs ys m q false t = refl
  field_case xs ys m q true t =
      let names = map (λ (f : List ℕ × List ℕ). f.0) fs in
      let key : Entry → List ℕ = λ e. e.0 in
      let k = length-le_from_is_member nat_list_eq_equiv names (map key (xs ++ ys)) d (λ n i. any_map (bytes_eq n) (xs ++ ys) ∙ without n xs ys m t (subst (λ (l : List Entry). list_any (λ (e : Entry). bytes_eq n e.0) l ≡ true) q (member_any n ms (field_found n fs ms ps e i)))) in
      absurd (omega (arith, k, l, length_map (λ (f : List ℕ × List ℕ). f.0) fs, length_map key (xs ++ ys), length-append xs ys, length-append xs (m ∷ ys), ap (λ (l : List Entry). length l) q))

  -- each key is the name of a field
  pub fields_only : (name : List ℕ) → IsSome (get_member name ms) → list_any (λ (f : List ℕ × List ℕ). bytes_eq name f.0) fs ≡ false → ⊥
  fields_only name s a =
      let names = map (λ (f : List ℕ × List ℕ). f.0) fs in
      let key : Entry → List ℕ = λ e. e.0 in
      let k = length-le_from_is_member nat_list_eq_equiv (name ∷ names) (map key (entries_of ms)) (IsDistinct-cons bytes_eq name names (none_is name fs a) d) (λ n i. any_map (bytes_eq n) (entries_of ms) ∙ member_any n ms (there n (any_cases (bytes_eq n name) (list_any (bytes_eq n) names) i))) in
      omega (arith, k, l, length_map (λ (f : List ℕ × List ℕ). f.0) fs, length_map key (entries_of ms))
    where
      there : (n : List ℕ) → (bytes_eq n name ≡ true) ⊎ (list_any (bytes_eq n) (map (λ f. f.0) fs) ≡ true) → is_some (get_member n ms) ≡ true
      there n (inl q) = ap (λ s. is_some (get_member s ms)) ((bytes_eq-Decides n name).0 q) ∙ s
      there n (inr q) = field_found n fs ms ps e q

  pub fields_each : HaveOneEach (entries_of ms)
  fields_each = λ xs ys m q. field_case xs ys m q (list_any (λ (x : Entry). bytes_eq m.0 x.0) xs) refl
