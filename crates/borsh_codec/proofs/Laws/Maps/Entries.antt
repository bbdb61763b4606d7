-- Lists of entries as finite maps: the one ascending list, and look-ups.
use Rattle.std.specs.Prelude.{◌≡◌, Bool, true, false, cond, List, [], ◌∷◌, Some, None}
use Rattle.std.specs.declared.cmp.Ordering.{Ordering}
use Rattle.std.specs.declared.cmp.Ordering.TheVariants.{Less, Equal, Greater}
use Rattle.std.specs.Ordering.{is_eq, match_ordering, ordering_reverse}
use Rattle.std.specs.Cmp.{IsTotalOrder, alike_right, tied_itself, eq_by_cmp_equiv}
use Rattle.std.specs.BTreeMap.{insert_entry, is_at}
use Rattle.std.specs.Map.{keys_of, lookup}
use Rattle.std.specs.List.Sorted.{IsStrictlySortedBy}
use Rattle.std.specs.List.{AllByRecursion, AllZip}
use Rattle.std.proofs.Common.{sym, ◌∙◌, ap, subst, refl}
use Rattle.std.proofs.lemmas.Map.Keys.{sorted_tail, IsDistinct-from_sorted}
use Rattle.std.proofs.lemmas.Map.Entries.{lookup_head, lookup_tail, none_past_head, none_below_head}
use Rattle.std.proofs.lemmas.Map.{lookup-none}
use Rattle.borsh_codec.specs.Maps.{sorted_by_key, EquivalentOptions, EquivalentMaps}

-- ---- conditionals

cond_same : {X : Type 0} (b : Bool) (x y z : X) → cond b x z ≡ cond b x (cond b y z)
cond_same true x y z = refl
cond_same false x y z = refl

cond_swap : {X : Type 0} (b c : Bool) (x y z : X) → (b ≡ true → c ≡ true → ⊥) → cond b x (cond c y z) ≡ cond c y (cond b x z)
cond_swap true true x y z h = absurd (h refl refl)
cond_swap true false x y z h = refl
cond_swap false true x y z h = refl
cond_swap false false x y z h = refl

all_map : {X : Type 0} (P Q : X → Type 0) → ((x : X) → P x → Q x) → (xs : List X) → AllByRecursion P xs → AllByRecursion Q xs
all_map P Q f [] h = tt
all_map P Q f (x ∷ xs) h = (f x h.0, all_map P Q f xs h.1)

pub equal_from_test : (r : Ordering) → is_eq r ≡ true → r ≡ Equal
equal_from_test Less e = absurd (cc)
equal_from_test Equal e = refl
equal_from_test Greater e = absurd (cc)

-- ---- inserting one entry

module _ {K V : Type 0} (R : K → K → Ordering) where
  pub all_inserted : (P : K → Type 0) (es : List (K × V)) (k : K) (v : V) → AllByRecursion P (keys_of es) → P k → AllByRecursion P (keys_of (insert_entry R es k v))
  all_inserted P [] k v a p = (p, tt)
  all_inserted P (e ∷ es) k v a p = by (R k e.0) (all_inserted P es k v a.1 p)
    where
      by : (r : Ordering) → AllByRecursion P (keys_of (insert_entry R es k v)) → AllByRecursion P (keys_of (match_ordering r ((k, v) ∷ e ∷ es) ((e.0, v) ∷ es) (e ∷ insert_entry R es k v)))
      by Less h = (p, a)
      by Equal h = a
      by Greater h = (a.0, h)

module _ {K V : Type 0} {R : K → K → Ordering} (o : IsTotalOrder R) where
  sorted_inserted : (es : List (K × V)) (k : K) (v : V) → IsStrictlySortedBy R (keys_of es) → IsStrictlySortedBy R (keys_of (insert_entry R es k v))
  unfolding IsStrictlySortedBy
  sorted_inserted [] k v s = (tt, tt)
  sorted_inserted (e ∷ es) k v s = by (sorted_inserted es k v s.1) (R k e.0) refl
    where
      by : IsStrictlySortedBy R (keys_of (insert_entry R es k v)) → (r : Ordering) → R k e.0 ≡ r → IsStrictlySortedBy R (keys_of (match_ordering r ((k, v) ∷ e ∷ es) ((e.0, v) ∷ es) (e ∷ insert_entry R es k v)))
      by _ Less h = ((h, all_map (λ y. R e.0 y ≡ Less) (λ y. R k y ≡ Less) (λ y l. o.trans k e.0 y h l) (keys_of es) s.0), s)
      by _ Equal h = s
      by rest Greater h = (all_inserted R (λ y. R e.0 y ≡ Less) es k v s.0 (o.antisymm e.0 k ∙ ap ordering_reverse h), rest)

  lookup_inserted : (q : K) (es : List (K × V)) (k : K) (v : V) → lookup (is_at (R q)) (insert_entry R es k v) ≡ cond (is_eq (R q k)) (Some v) (lookup (is_at (R q)) es)
  lookup_inserted q [] k v = refl
  lookup_inserted q (e ∷ es) k v = by (lookup_inserted q es k v) (R k e.0) refl
    where
      apart : R k e.0 ≡ Greater → is_eq (R q e.0) ≡ true → is_eq (R q k) ≡ true → ⊥
      apart h x y =
          let at_e : R q e.0 ≡ Equal = equal_from_test (R q e.0) x in
          let at_k : R q k ≡ Equal = equal_from_test (R q k) y in
          let same : R q e.0 ≡ R k e.0 = o.congr q k e.0 at_k in
          cc

      by : lookup (is_at (R q)) (insert_entry R es k v) ≡ cond (is_eq (R q k)) (Some v) (lookup (is_at (R q)) es) → (r : Ordering) → R k e.0 ≡ r → lookup (is_at (R q)) (match_ordering r ((k, v) ∷ e ∷ es) ((e.0, v) ∷ es) (e ∷ insert_entry R es k v)) ≡ cond (is_eq (R q k)) (Some v) (lookup (is_at (R q)) (e ∷ es))
      by _ Less h = refl
      by _ Equal h =
          let same : is_eq (R q e.0) ≡ is_eq (R q k) = ap is_eq (sym (alike_right o k e.0 q h)) in
          ap (λ b. cond b (Some v) (lookup (is_at (R q)) es)) same ∙ cond_same (is_eq (R q k)) (Some v) (Some e.1) (lookup (is_at (R q)) es) ∙ ap (λ b. cond (is_eq (R q k)) (Some v) (cond b (Some e.1) (lookup (is_at (R q)) es))) (sym same)
      by rest Greater h = ap (λ l. cond (is_eq (R q e.0)) (Some e.1) l) rest ∙ cond_swap (is_eq (R q e.0)) (is_eq (R q k)) (Some e.1) (Some v) (lookup (is_at (R q)) es) (apart h)

  -- ---- the one ascending list
  pub by_key_ascends : (es : List (K × V)) → IsStrictlySortedBy R (keys_of (sorted_by_key R es))
  unfolding IsStrictlySortedBy
  by_key_ascends [] = tt
  by_key_ascends (e ∷ es) = sorted_inserted (sorted_by_key R es) e.0 e.1 (by_key_ascends es)

  pub lookup-by_key : (q : K) (es : List (K × V)) → lookup (is_at (R q)) (sorted_by_key R es) ≡ lookup (is_at (R q)) es
  lookup-by_key q [] = refl
  lookup-by_key q (e ∷ es) = lookup_inserted q (sorted_by_key R es) e.0 e.1 ∙ ap (cond (is_eq (R q e.0)) (Some e.1)) (lookup-by_key q es)

  -- two ascending lists with the same values at each key are the same, place by place
  module _ (S : V → V → Type 0) where
    heads : (e : K × V) (es : List (K × V)) (f : K × V) (fs : List (K × V)) → IsStrictlySortedBy R (keys_of (e ∷ es)) → IsStrictlySortedBy R (keys_of (f ∷ fs)) → EquivalentMaps R S (e ∷ es) (f ∷ fs) → R e.0 f.0 ≡ Equal
    heads e es f fs s t h = by (R e.0 f.0) refl
      where
        by : (r : Ordering) → R e.0 f.0 ≡ r → r ≡ Equal
        by Less i =
            let here : lookup (is_at (R e.0)) (e ∷ es) ≡ Some e.1 = lookup_head (is_at (R e.0)) e es (ap is_eq (tied_itself o e.0)) in
            let there : lookup (is_at (R e.0)) (f ∷ fs) ≡ None = lookup-none (is_at (R e.0)) (f ∷ fs) (none_below_head o e.0 f fs t i) in
            absurd (subst (λ l. EquivalentOptions S (Some e.1) l) there (subst (λ l. EquivalentOptions S l (lookup (is_at (R e.0)) (f ∷ fs))) here (h e.0)))
        by Equal i = refl
        by Greater i =
            let back : R f.0 e.0 ≡ Less = o.antisymm f.0 e.0 ∙ ap ordering_reverse i in
            let here : lookup (is_at (R f.0)) (f ∷ fs) ≡ Some f.1 = lookup_head (is_at (R f.0)) f fs (ap is_eq (tied_itself o f.0)) in
            let there : lookup (is_at (R f.0)) (e ∷ es) ≡ None = lookup-none (is_at (R f.0)) (e ∷ es) (none_below_head o f.0 e es s back) in
            absurd (subst (λ l. EquivalentOptions S l (Some f.1)) there (subst (λ l. EquivalentOptions S (lookup (is_at (R f.0)) (e ∷ es)) l) here (h f.0)))

    -- the look-ups past the heads
    tails : (e : K × V) (es : List (K × V)) (f : K × V) (fs : List (K × V)) → IsStrictlySortedBy R (keys_of (e ∷ es)) → IsStrictlySortedBy R (keys_of (f ∷ fs)) → R e.0 f.0 ≡ Equal → EquivalentMaps R S (e ∷ es) (f ∷ fs) → EquivalentMaps R S es fs
    tails e es f fs s t i h q = by (is_eq (R q e.0)) refl
      where
        level : is_eq (R q e.0) ≡ is_eq (R q f.0)
        level = ap is_eq (alike_right o e.0 f.0 q i)

        by : (b : Bool) → is_eq (R q e.0) ≡ b → EquivalentOptions S (lookup (is_at (R q)) es) (lookup (is_at (R q)) fs)
        by true j =
            let a : lookup (is_at (R q)) es ≡ None = lookup-none (is_at (R q)) es (none_past_head (eq_by_cmp_equiv o) q e es (IsDistinct-from_sorted R (keys_of (e ∷ es)) s) j) in
            let b : lookup (is_at (R q)) fs ≡ None = lookup-none (is_at (R q)) fs (none_past_head (eq_by_cmp_equiv o) q f fs (IsDistinct-from_sorted R (keys_of (f ∷ fs)) t) (sym level ∙ j)) in
            subst (λ l. EquivalentOptions S l (lookup (is_at (R q)) fs)) (sym a) (subst (λ l. EquivalentOptions S None l) (sym b) tt)
        by false j =
            let a : lookup (is_at (R q)) (e ∷ es) ≡ lookup (is_at (R q)) es = lookup_tail (is_at (R q)) e es j in
            let b : lookup (is_at (R q)) (f ∷ fs) ≡ lookup (is_at (R q)) fs = lookup_tail (is_at (R q)) f fs (sym level ∙ j) in
            subst (λ l. EquivalentOptions S l (lookup (is_at (R q)) fs)) a (subst (λ l. EquivalentOptions S (lookup (is_at (R q)) (e ∷ es)) l) b (h q))

    pub aligned : (es fs : List (K × V)) → IsStrictlySortedBy R (keys_of es) → IsStrictlySortedBy R (keys_of fs) → EquivalentMaps R S es fs → AllZip (λ e f. (R e.0 f.0 ≡ Equal) × S e.1 f.1) es fs
    aligned [] [] s t h = tt
    aligned [] (f ∷ fs) s t h =
        let here : lookup (is_at (R f.0)) (f ∷ fs) ≡ Some f.1 = lookup_head (is_at (R f.0)) f fs (ap is_eq (tied_itself o f.0)) in
        absurd (subst (λ l. EquivalentOptions S None l) here (h f.0))
    aligned (e ∷ es) [] s t h =
        let here : lookup (is_at (R e.0)) (e ∷ es) ≡ Some e.1 = lookup_head (is_at (R e.0)) e es (ap is_eq (tied_itself o e.0)) in
        absurd (subst (λ l. EquivalentOptions S l None) here (h e.0))
    aligned (e ∷ es) (f ∷ fs) s t h =
        let i : R e.0 f.0 ≡ Equal = heads e es f fs s t h in
        let a : lookup (is_at (R e.0)) (e ∷ es) ≡ Some e.1 = lookup_head (is_at (R e.0)) e es (ap is_eq (tied_itself o e.0)) in
        let b : lookup (is_at (R e.0)) (f ∷ fs) ≡ Some f.1 = lookup_head (is_at (R e.0)) f fs (ap is_eq i) in
        let v : S e.1 f.1 = subst (λ l. EquivalentOptions S l (Some f.1)) a (subst (λ l. EquivalentOptions S (lookup (is_at (R e.0)) (e ∷ es)) l) b (h e.0)) in
        ((i, v), aligned es fs (sorted_tail R e.0 (keys_of es) s) (sorted_tail R f.0 (keys_of fs) t) (tails e es f fs s t i h))
