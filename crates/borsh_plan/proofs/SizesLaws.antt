-- The sizes that are known.
use Rattle.std.proofs.Common.{◌≡◌, ℕ, suc, zero, ◌+◌, ◌*◌, ◌^◌, ◌<◌, ◌≤◌, Bool, true, false, cond, eqb, ltb, List, [], ◌∷◌, ◌++◌, length, map, drop, replicate, get_or, Some, None, refl, sym, ◌∙◌, ap, subst, arith, add-one, length-append, inl, inr}
use Rattle.std.specs.Prelude.{Option, slice_get, sum, ℤ}
use Rattle.std.proofs.lemmas.List.Sums.{sum_by-cons}
use Rattle.std.proofs.lemmas.Bool.{lt-ltb, le-ltb, cases_lt}
use Rattle.std.proofs.Math.ListN.{get_or-append}
use Rattle.std.proofs.Math.Seq.{get_or-append_seam}
use Rattle.borsh_walks.specs.Container.{Shape, primitive, sequence, product, choice}
use Rattle.borsh_plan.specs.declared.named.Named.{Named}
use Rattle.borsh_plan.specs.Names.{name_at, shape_at, parts_in}
use Rattle.borsh_plan.specs.Sizes.{fitting, are_known, together, known_by, known_within, AreSizes, AreSizesBy}

-- ---- numbers of at most 64 bits
fits_or : (n : ℕ) (b : Bool) → 0 < cond b n 0 → cond b n 0 ≡ n
fits_or n true h = refl
fits_or n false h = absurd (omega arith)

pub fits : (n : ℕ) → 0 < fitting n → fitting n ≡ n
fits n h = fits_or n (ltb n (2 ^ 64)) h

pub fits_small : (n : ℕ) → n < 2 ^ 64 → fitting n ≡ n
fits_small n h = ap (λ b. cond b n 0) (lt-ltb n (2 ^ 64) h)

pub fits_large : (n : ℕ) → 2 ^ 64 ≤ n → fitting n ≡ 0
fits_large n h = ap (λ b. cond b n 0) (le-ltb n (2 ^ 64) h)

-- ---- sizes of parts together
pub first_known : (n : ℕ) (ns : List ℕ) → are_known (n ∷ ns) ≡ true → (0 < n) × (are_known ns ≡ true)
first_known zero ns h = cc
first_known (suc n) ns h = (omega arith, h)

known_on : (n : ℕ) (ns : List ℕ) → (n ≡ 0 → ⊥) → are_known (n ∷ ns) ≡ are_known ns
known_on zero ns f = absurd (f refl)
known_on (suc n) ns f = refl

cond_zero : (b : Bool) → ◌≡◌ {A = ℕ} (cond b 0 0) 0
cond_zero true = refl
cond_zero false = refl

-- what is left to be summed, of all
abbrev pub Summed : (List ℕ → ℕ) → List (List ℕ) → List (List ℕ) → ℕ → Type 0
Summed P all left total = (are_known (map P all) ≡ are_known (map P left)) × (sum (map P all) ≡ total + sum (map P left))

module _ (P : List ℕ → ℕ) (all : List (List ℕ)) where
  pub summed_start : Summed P all all 0
  summed_start = (refl, omega arith)

  pub summed_more : (p : List ℕ) (left : List (List ℕ)) (total size : ℕ) → size ≡ P p → (size ≡ 0 → ⊥) → Summed P all (p ∷ left) total → Summed P all left (total + size)
  summed_more p left total size e some h = (h.0 ∙ known_on (P p) (map P left) (λ z. some (e ∙ z)), h.1 ∙ ap (λ n. total + n) (sum_by-cons (λ n. n) (P p) (map P left)) ∙ more (P p) (sum (map P left)) e)
    where
      more : (n rest : ℕ) → size ≡ n → total + (n + rest) ≡ total + size + rest
      more n rest e = omega arith

  pub summed_unknown : (p : List ℕ) (left : List (List ℕ)) (total size : ℕ) → size ≡ P p → size ≡ 0 → Summed P all (p ∷ left) total → together (map P all) ≡ 0
  summed_unknown p left total size e z h = ap (λ b. cond b (fitting (sum (map P all))) 0) (h.0 ∙ ap (λ n. are_known (n ∷ map P left)) (sym e ∙ z))

  pub summed_large : (p : List ℕ) (left : List (List ℕ)) (total size : ℕ) → size ≡ P p → 2 ^ 64 ≤ total + size → Summed P all (p ∷ left) total → together (map P all) ≡ 0
  summed_large p left total size e large h = ap (λ n. cond (are_known (map P all)) n 0) (fits_large (sum (map P all)) (more (P p) (sum (map P left)) (sum (map P all)) e (h.1 ∙ ap (λ n. total + n) (sum_by-cons (λ n. n) (P p) (map P left))))) ∙ cond_zero (are_known (map P all))
    where
      more : (n rest whole : ℕ) → size ≡ n → whole ≡ total + (n + rest) → 2 ^ 64 ≤ whole
      more n rest whole e s = omega arith

  pub summed_end : (left : List (List ℕ)) (total : ℕ) → left ≡ [] → total < 2 ^ 64 → Summed P all left total → together (map P all) ≡ total
  summed_end left total e low h =
      let s : sum (map P all) ≡ total = h.1 ∙ ap (λ l. total + sum (map P l)) e ∙ omega arith in
      ap (λ b. cond b (fitting (sum (map P all))) 0) (h.0 ∙ ap (λ l. are_known (map P l)) e) ∙ ap (λ n. fitting n) s ∙ fits_small total low

-- ---- the size of a definition
module _ (P : List ℕ → ℕ) (o : Option Shape) (s : Shape) (there : o ≡ Some s) where
  pub by_primitive : (n : ℕ) → s ≡ primitive n → n ≡ known_by P o
  by_primitive n e = sym (ap (λ o. known_by P o) (there ∙ ap (λ s. Some s) e))

  pub by_parts : (ps : List (List ℕ)) → s ≡ product ps → together (map P (drop 0 (parts_in o))) ≡ known_by P o
  by_parts ps e = let q = there ∙ ap (λ s. Some s) e in ap (λ o. together (map P (drop 0 (parts_in o)))) q ∙ sym (ap (λ o. known_by P o) q)

  wide : (w lo hi : ℕ) (el : List ℕ) → (w ≡ 0 → ⊥) → 0 ≡ known_by P (Some (sequence w lo hi el))
  wide zero lo hi el f = absurd (f refl)
  wide (suc w) lo hi el f = refl

  pub by_list : (w lo hi : ℕ) (el : List ℕ) → s ≡ sequence w lo hi el → (w ≡ 0 → ⊥) → 0 ≡ known_by P o
  by_list w lo hi el e f = wide w lo hi el f ∙ sym (ap (λ o. known_by P o) (there ∙ ap (λ s. Some s) e))

  pub by_array : (w lo hi n : ℕ) (el : List ℕ) → s ≡ sequence w lo hi el → w ≡ 0 → ((e : List ℕ) → slice_get (parts_in o) 0 ≡ Some e → n ≡ cond (eqb lo hi) (fitting (lo * P e)) 0) → n ≡ known_by P o
  by_array w lo hi n el e z f =
      let q : o ≡ Some (sequence zero lo hi el) = there ∙ ap (λ s. Some s) e ∙ ap (λ w. Some (sequence w lo hi el)) z in
      f el (ap (λ o. slice_get (parts_in o) 0) q) ∙ sym (ap (λ o. known_by P o) q)

  pub by_enum : (w : ℕ) (vs : List (ℤ × List ℕ)) → s ≡ choice w vs → 0 ≡ known_by P o
  by_enum w vs e = sym (ap (λ o. known_by P o) (there ∙ ap (λ s. Some s) e))

pub by_nothing : (P : List ℕ → ℕ) (o : Option Shape) → o ≡ None → 0 ≡ known_by P o
by_nothing P o e = sym (ap (λ o. known_by P o) e)

-- ---- of all names of a plan
pub sizes_none : (ns : List Named) (C : List ℕ → Option Shape) (n : ℕ) → AreSizes (λ x. known_within 0 C x) ns (replicate n 0)
unfolding known_within
sizes_none ns C n i h = none_at n i
  where
    none_at : (n i : ℕ) → ◌≡◌ {A = ℕ} (get_or (replicate n 0) i 0) 0
    none_at zero i = refl
    none_at (suc n) zero = refl
    none_at (suc n) (suc i) = none_at n i

pub sizes_next : (ns : List Named) (C : List ℕ → Option Shape) (k : ℕ) (v : List ℕ) → ((i : ℕ) → i < length ns → C (name_at ns i) ≡ shape_at ns i) → AreSizesBy (λ x. known_within k C x) ns v → AreSizes (λ x. known_within (k + 1) C x) ns v
unfolding known_within
sizes_next ns C k v defined f i h = f i h ∙ ap (λ o. known_by (λ x. known_within k C x) o) (sym (defined i h)) ∙ ap (λ j. known_within j C (name_at ns i)) (sym (add-one k))

-- ---- a list of answers, one for each place
module _ {A : Type 0} (d : A) (Q : ℕ → A → Type 0) where
  abbrev pub Answered : List A → Type 0
  Answered zs = (i : ℕ) → i < length zs → Q i (get_or zs i d)

  pub answered_none : (zs : List A) → zs ≡ [] → Answered zs
  answered_none zs e i h = let n = ap (λ l. length l) e in absurd (omega (arith, n, h))

  pub answered_more : (zs : List A) (z : A) → Answered zs → Q (length zs) z → Answered (zs ++ z ∷ [])
  answered_more zs z f g i h = elim (cases_lt i (length zs)) [
    | inl l ↦ subst (λ b. Q i b) (sym (get_or-append zs (z ∷ []) d i l)) (f i l)
    | inr l ↦
        let n = length-append zs (z ∷ []) in
        let e : i ≡ length zs = omega (arith, n, l, h) in
        subst (λ k. Q k (get_or (zs ++ z ∷ []) k d)) (sym e) (subst (λ b. Q (length zs) b) (sym (get_or-append_seam zs z [] d)) g)
  ]

  -- the places are all those of n names
  pub answered_all : (zs : List A) (n : ℕ) → n ≤ length zs → Answered zs → (i : ℕ) → i < n → Q i (get_or zs i d)
  answered_all zs n l f i h = f i (omega (arith, l, h))

-- of the definitions' sizes
abbrev pub SizedBy : (List ℕ → ℕ) → List Named → ℕ → ℕ → Type 0
SizedBy P ns i z = z ≡ known_by P (shape_at ns i)
