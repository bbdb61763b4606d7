-- What is still to be compared.
use Rattle.std.proofs.{Common.{◌≡◌, ◌⊎◌, inl, inr, ℕ, suc, zero, ◌+◌, ◌-◌, ◌<◌, ◌≤◌, ◌^◌, List, [], ◌∷◌, ◌++◌, length, map, drop, replicate, Bool, Option, Some, None, refl, sym, ◌∙◌, ap, subst, arith, pos, reverse, slice_get, MatchBool, true, false, Ordering, Less, Equal, Greater}, lemmas.List.{reverse-append}, lemmas.Cmp.{ranked}}
use Rattle.std.specs.{Ordering.{nat_cmp, MatchOrdering}, Cmp.{nat_cmp_is}}
use Rattle.borsh_walks.specs.Container.{references, tag}
use Rattle.borsh_plan.specs.{Names.{name_of}, declared.named.Named.{Named}}
use Rattle.borsh_json.specs.{declared.order.Ordered.{Ordered}, declared.order.Ordered.TheVariants.{Single, Number, Text, Array, List as Counted, Tuple, Other}, declared.order.Pending.{Pending}, declared.order.Pending.TheVariants.{Elements, Parts, Copies, PartCopies}, Forms.{Form, tuple, shape_of_form, HasNoBytes}, Ordered.{Order, list, other, HasOrder, Compared, a_value, a_copy, elements, IsAtLeast, all_equal}, Orders.{FindsOrder, IsPending, ArePending, IsTurn, IsPartAt, AreAlike}, Places.{IsAt}}
use Rattle.borsh_json.proofs.OrderLaws.{Tells, NumbersCompare, TextsCompare, IsCopyOf, single_tells, numbers_tell, texts_tell, array_tells, parts_tell, list_tells, list_short, element_tells, end_tells, empty_tell, alike_then, other_copy, copy_copy, zeros_tell}

drop_get : (i : ℕ) (qs : List (List ℕ)) (p : List ℕ) → slice_get qs i ≡ Some p → drop i qs ≡ p ∷ drop (suc i) qs
drop_get i [] p e = cc
drop_get zero (q ∷ qs) p e = let g : q ≡ p = cc in ap (λ p. p ∷ qs) g
drop_get (suc i) (q ∷ qs) p e = drop_get i qs p e

short_get : (i : ℕ) (qs : List (List ℕ)) → i < length qs → (p : List ℕ) × (slice_get qs i ≡ Some p)
short_get i [] h = absurd (omega (arith, h))
short_get zero (q ∷ qs) h = (q, refl)
short_get (suc i) (q ∷ qs) h = short_get i qs (omega (arith, h))

past_all : (i : ℕ) (qs : List (List ℕ)) → slice_get qs i ≡ None → drop i qs ≡ []
past_all zero [] h = refl
past_all (suc i) [] h = refl
past_all zero (q ∷ qs) h = cc
past_all (suc i) (q ∷ qs) h = past_all i qs h

module _ (F : List ℕ → Option Form) (ns : List Named) where
  -- an order that decides, or what is pending then
  abbrev pub Fronts : List Pending → List Compared → List ℕ → List ℕ → List ℕ → List ℕ → Ordering → Type 0
  Fronts ps ts L R M S o = MatchOrdering o (IsAtLeast F ts L R → ⊥) ((us : List Compared) × ArePending F ns (reverse ps) us × AreAlike F ts L R us M S) (IsAtLeast F ts L R)

  last_first : (ps : List Pending) (p : Pending) → reverse (ps ++ p ∷ []) ≡ p ∷ reverse ps
  last_first ps p = reverse-append ps (p ∷ [])

  pushed : (ps new : List Pending) (p : Pending) (us ts : List Compared) → new ≡ ps ++ p ∷ [] → IsPending F ns p us → ArePending F ns (reverse ps) ts → ArePending F ns (reverse new) (us ++ ts)
  pushed ps new p us ts e i a = subst (λ (l : List Pending). ArePending F ns l (us ++ ts)) (sym (ap (λ (l : List Pending). reverse l) e ∙ last_first ps p)) (us, ts, i, a, refl)

  -- what was pending last, and what is pending before it
  popped : (all ps : List Pending) (p : Pending) (ts : List Compared) → all ≡ ps ++ p ∷ [] → ArePending F ns (reverse all) ts → (us : List Compared) × (more : List Compared) × IsPending F ns p us × ArePending F ns (reverse ps) more × (ts ≡ us ++ more)
  popped all ps p ts e a = subst (λ (l : List Pending). ArePending F ns l ts) (ap (λ (l : List Pending). reverse l) e ∙ last_first ps p) a

  kept : (ps : List Pending) (t : Compared) (ts : List Compared) (L R M S : List ℕ) (o : Ordering) → ArePending F ns (reverse ps) ts → Tells F t ts L R M S o [] → Fronts ps (t ∷ ts) L R M S o
  kept ps t ts L R M S Less a h = h
  kept ps t ts L R M S Equal a h = (ts, a, h)
  kept ps t ts L R M S Greater a h = h

  -- ---- by the order of a value
  module _ (ps : List Pending) (ts : List Compared) (L R : List ℕ) (a : ArePending F ns (reverse ps) ts) where
    pub front_single : (t : Compared) → IsTurn F ns Single t → Fronts ps (t ∷ ts) L R L R Equal
    front_single (a_value x) i = (ts, a, single_tells F x ts L R (subst (λ (q : Order). HasOrder F x q) i.2 i.1))
    front_single (a_copy x) i = let e = i.2 in cc
    front_single (elements e n m) i = absurd i

    pub front_number : (t : Compared) (n : ℕ) (signed : Bool) (M S : List ℕ) (o : Ordering) → IsTurn F ns (Number n signed) t → NumbersCompare F n signed L R M S o → Fronts ps (t ∷ ts) L R M S o
    front_number (a_value x) n signed M S o i c = kept ps (a_value x) ts L R M S o a (numbers_tell F x n signed ts L R M S o (subst (λ (q : Order). HasOrder F x q) i.2 i.1) c)
    front_number (a_copy x) n signed M S o i c = let e = i.2 in cc
    front_number (elements e k m) n signed M S o i c = absurd i

    pub front_text : (t : Compared) (M S : List ℕ) (o : Ordering) → IsTurn F ns Text t → TextsCompare F L R M S o → Fronts ps (t ∷ ts) L R M S o
    front_text (a_value x) M S o i c = kept ps (a_value x) ts L R M S o a (texts_tell F x ts L R M S o (subst (λ (q : Order). HasOrder F x q) i.2 i.1) c)
    front_text (a_copy x) M S o i c = let e = i.2 in cc
    front_text (elements e k m) M S o i c = absurd i

    pub front_array : (t : Compared) (new : List Pending) (n at : ℕ) → new ≡ ps ++ Elements at n n ∷ [] → IsTurn F ns (Array n at) t → Fronts new (t ∷ ts) L R L R Equal
    front_array (a_value x) new n at p i =
        let o = i.2 in
        let e = o.0 in
        (elements e n n ∷ ts, pushed ps new (Elements at n n) (elements e n n ∷ []) ts p (e, o.1, refl) a, array_tells F x n e ts L R (subst (λ (q : Order). HasOrder F x q) o.2 i.1))
    front_array (a_copy x) new n at p i = let e = i.2 in cc
    front_array (elements e k m) new n at p i = absurd i

    pub front_tuple : (t : Compared) (new : List Pending) (at n : ℕ) → new ≡ ps ++ Parts at n 0 ∷ [] → IsTurn F ns (Tuple at n) t → Fronts new (t ∷ ts) L R L R Equal
    front_tuple (a_value x) new at n p i =
        let o = i.2 in
        let qs = o.0 in
        let vs = map (λ p. a_value p) qs in
        (vs ++ ts, pushed ps new (Parts at n 0) vs ts p (x, qs, o.1, o.2, o.3, refl) a, parts_tell F x qs ts L R (subst (λ (q : Order). HasOrder F x q) o.4 i.1))
    front_tuple (a_copy x) new at n p i = let e = i.2 in cc
    front_tuple (elements e k m) new at n p i = absurd i

    widths : (x : List ℕ) (w : ℕ) (e : List ℕ) → HasOrder F x (list w e) → (w ≡ 1) ⊎ (w ≡ 4)
    widths x w e (inl (z, q)) = cc
    widths x w e (inr (z, inl (inl h))) = inr h.0
    widths x w e (inr (z, inl (inr h))) = inl h.0
    widths x w e (inr (z, inr h)) = let q = h.0 in cc

    -- a list has a count of one byte or four
    pub turn_list : (t : Compared) (w at : ℕ) → IsTurn F ns (Counted w at) t → (x : List ℕ) × (e : List ℕ) × (t ≡ a_value x) × IsAt ns at e × HasOrder F x (list w e) × ((w ≡ 1) ⊎ (w ≡ 4))
    turn_list (a_value x) w at i =
        let o = i.2 in
        let h : HasOrder F x (list w o.0) = subst (λ (q : Order). HasOrder F x q) o.2 i.1 in
        (x, o.0, refl, o.1, h, widths x w o.0 h)
    turn_list (a_copy x) w at i = let e = i.2 in cc
    turn_list (elements e k m) w at i = absurd i

    pub front_short : (t : Compared) (x : List ℕ) (w : ℕ) (e : List ℕ) → t ≡ a_value x → HasOrder F x (list w e) → (w ≤ length L → w ≤ length R → ⊥) → IsAtLeast F (t ∷ ts) L R → ⊥
    front_short t x w e q h short = subst (λ (t : Compared). IsAtLeast F (t ∷ ts) L R → ⊥) (sym q) (list_short F x w e ts L R h short)

    module _ (t : Compared) (x : List ℕ) (w at : ℕ) (e : List ℕ) (q : t ≡ a_value x) (h : HasOrder F x (list w e)) (n m : ℕ) (M S : List ℕ) (i : n < 256 ^ w) (j : m < 256 ^ w) (l : L ≡ tag w (pos n) ++ M) (r : R ≡ tag w (pos m) ++ S) where
      alike : AreAlike F (t ∷ ts) L R (elements e n m ∷ ts) M S
      alike = subst (λ (t : Compared). AreAlike F (t ∷ ts) L R (elements e n m ∷ ts) M S) (sym q) (list_tells F x w e n m ts L R M S h i j l r)

      -- a list is compared by its elements; or, where these have no bytes, by their numbers
      pub front_list : (new : List Pending) → new ≡ ps ++ Elements at n m ∷ [] → IsAt ns at e → Fronts new (t ∷ ts) L R M S Equal
      front_list new p k = (elements e n m ∷ ts, pushed ps new (Elements at n m) (elements e n m ∷ []) ts p (e, k, refl) a, alike)

      pub front_empty : (o : Ordering) → HasNoBytes F e → o ≡ nat_cmp n m → Fronts ps (t ∷ ts) L R M S o
      front_empty o z c = kept ps t ts L R M S o a (subst (λ o. Tells F t ts L R M S o []) (sym c) (alike_then F ts (nat_cmp n m) alike (empty_tell F e n m ts M S z)))

  -- ---- a value whose order isn't told
  pub turn_at : (t : Compared) (at : ℕ) → IsTurn F ns (Other at) t → (x : List ℕ) × IsAt ns at x
  turn_at (a_value y) at i = (y, i.2.0)
  turn_at (a_copy y) at i =
      let e : Other at ≡ Other i.0 = i.2 in
      let p : at ≡ i.0 = cc in
      (y, subst (λ k. IsAt ns k y) (sym p) i.1)
  turn_at (elements e n m) at i = absurd i

  pub turn_other : (t : Compared) (x : List ℕ) (at : ℕ) → IsAt ns at x → IsTurn F ns (Other at) t → IsCopyOf F x t
  turn_other (a_value y) x at k i =
      let o = i.2 in
      let e : Some y ≡ Some x = sym o.0 ∙ k in
      let q : y ≡ x = cc in
      subst (λ y. IsCopyOf F x (a_value y)) (sym q) (other_copy F x (subst (λ y. HasOrder F y other) q (subst (λ (q : Order). HasOrder F y q) o.1 i.1)))
  turn_other (a_copy y) x at k i =
      let e : Other at ≡ Other i.0 = i.2 in
      let p : at ≡ i.0 = cc in
      let g : Some y ≡ Some x = sym i.1 ∙ ap (λ j. name_of ns j) (sym p) ∙ k in
      let q : y ≡ x = cc in
      subst (λ y. IsCopyOf F x (a_copy y)) (sym q) (copy_copy F x)
  turn_other (elements e n m) x at k i = absurd i

  pub front_copies : (ps new : List Pending) (p : Pending) (t : Compared) (ts us : List Compared) (L R M S : List ℕ) → ArePending F ns (reverse ps) ts → new ≡ ps ++ p ∷ [] → IsPending F ns p us → AreAlike F (t ∷ ts) L R (us ++ ts) M S → Fronts new (t ∷ ts) L R M S Equal
  front_copies ps new p t ts us L R M S a e i h = (us ++ ts, pushed ps new p us ts e i a, h)

  -- ---- what comes next
  abbrev pub Nexts : List Pending → Ordered → List Compared → Type 0
  Nexts new found us = (t : Compared) × (vs : List Compared) × IsTurn F ns found t × ArePending F ns (reverse new) vs × ((L R : List ℕ) → AreAlike F us L R (t ∷ vs) L R)

  pub alike_both : {ts us vs : List Compared} {L R M S N T : List ℕ} → AreAlike F ts L R us M S → AreAlike F us M S vs N T → AreAlike F ts L R vs N T
  alike_both a b = ((λ h. a.0 (b.0 h)), (λ h. b.1 (a.1 h)))

  alike_same : {us vs : List Compared} (L R : List ℕ) → us ≡ vs → AreAlike F us L R vs L R
  alike_same {us = us} L R e = subst (λ (vs : List Compared). AreAlike F us L R vs L R) e ((λ h. h), (λ h. h))

  module _ (all ps : List Pending) (us : List Compared) (a : ArePending F ns (reverse all) us) where
    -- the next elements of two lists
    pub next_elements : (new : List Pending) (at n m : ℕ) (found : Ordered) → all ≡ ps ++ Elements at n m ∷ [] → 0 < n → 0 < m → ((x : List ℕ) → IsAt ns at x → FindsOrder F ns x found) → new ≡ ps ++ Elements at (n - 1) (m - 1) ∷ [] → Nexts new found us
    next_elements new at n m found q i j o e =
        let p = popped all ps (Elements at n m) us q a in
        let k = p.2 in
        let x = k.0 in
        let c : n ≡ suc (n - 1) = omega (arith, i) in
        let d : m ≡ suc (m - 1) = omega (arith, j) in
        let s : us ≡ elements x (suc (n - 1)) (suc (m - 1)) ∷ p.1 = p.4 ∙ ap (λ (l : List Compared). l ++ p.1) k.2 ∙ ap (λ n. elements x n m ∷ p.1) c ∙ ap (λ m. elements x (suc (n - 1)) m ∷ p.1) d in
        (a_value x, elements x (n - 1) (m - 1) ∷ p.1, o x k.1, pushed ps new (Elements at (n - 1) (m - 1)) (elements x (n - 1) (m - 1) ∷ []) p.1 e (x, k.1, refl) p.3, λ L R. alike_both (alike_same L R s) (element_tells F x (n - 1) (m - 1) p.1 L R))

    -- the end of one of the lists
    ends : (at n m : ℕ) → all ≡ ps ++ Elements at n m ∷ [] → (n ≡ 0) ⊎ (m ≡ 0) → (vs : List Compared) × ArePending F ns (reverse ps) vs × ((L R : List ℕ) → MatchOrdering (nat_cmp n m) (IsAtLeast F us L R → ⊥) (AreAlike F us L R vs L R) (IsAtLeast F us L R))
    ends at n m q z =
        let p = popped all ps (Elements at n m) us q a in
        let k = p.2 in
        let x = k.0 in
        let s : us ≡ elements x n m ∷ p.1 = p.4 ∙ ap (λ (l : List Compared). l ++ p.1) k.2 in
        (p.1, p.3, λ L R. alike_then F p.1 (nat_cmp n m) (alike_same L R s) (end_tells F x n m p.1 L R z))

    pub both_end : (at n m : ℕ) → all ≡ ps ++ Elements at n m ∷ [] → (n ≡ 0) ⊎ (m ≡ 0) → n ≡ m → (vs : List Compared) × ArePending F ns (reverse ps) vs × ((L R : List ℕ) → AreAlike F us L R vs L R)
    both_end at n m q z e =
        let t = ends at n m q z in
        let k : nat_cmp n m ≡ Equal = sym (nat_cmp_is n m Equal e) in
        (t.0, t.1, λ L R. subst (λ o. MatchOrdering o (IsAtLeast F us L R → ⊥) (AreAlike F us L R t.0 L R) (IsAtLeast F us L R)) k (t.2 L R))

    pub one_ends : (at n m : ℕ) → all ≡ ps ++ Elements at n m ∷ [] → (n ≡ 0) ⊎ (m ≡ 0) → (n ≡ m → ⊥) → (L R : List ℕ) → MatchOrdering (nat_cmp n m) (IsAtLeast F us L R → ⊥) (IsAtLeast F us L R) (IsAtLeast F us L R)
    one_ends at n m q z d L R = by (ends at n m q z).0 (nat_cmp n m) refl ((ends at n m q z).2 L R)
      where
        by : (vs : List Compared) (o : Ordering) → nat_cmp n m ≡ o → MatchOrdering o (IsAtLeast F us L R → ⊥) (AreAlike F us L R vs L R) (IsAtLeast F us L R) → MatchOrdering o (IsAtLeast F us L R → ⊥) (IsAtLeast F us L R) (IsAtLeast F us L R)
        by vs Less k f = f
        by vs Equal k f = absurd (d (subst (λ o. MatchOrdering o (n < m) (n ≡ m) (m < n)) k (ranked n m (nat_cmp n m) refl)))
        by vs Greater k f = f

    -- the next part of two tuples
    pub part_there : (at n i : ℕ) → all ≡ ps ++ Parts at n i ∷ [] → i < n → (x : List ℕ) × (qs : List (List ℕ)) × (p : List ℕ) × IsAt ns at x × (F x ≡ Some (tuple qs)) × (slice_get qs i ≡ Some p)
    part_there at n i q l =
        let k = (popped all ps (Parts at n i) us q a).2 in
        let g = short_get i k.1 (let h = k.4 in omega (arith, l, h)) in
        (k.0, k.1, g.0, k.2, k.3, g.1)

    pub next_part : (new : List Pending) (at n i : ℕ) (found : Ordered) (q : all ≡ ps ++ Parts at n i ∷ []) (l : i < n) → FindsOrder F ns (part_there at n i q l).2 found → new ≡ ps ++ Parts at n (i + 1) ∷ [] → Nexts new found us
    unfolding short_get part_there
    next_part new at n i found q l o e =
        let p = popped all ps (Parts at n i) us q a in
        let k = p.2 in
        let qs = k.1 in
        let g = short_get i qs (let h = k.4 in omega (arith, l, h)) in
        let s : suc i ≡ i + 1 = omega arith in
        let vs = map (λ p. a_value p) (drop (i + 1) qs) in
        let d : map (λ p. a_value p) (drop i qs) ≡ a_value g.0 ∷ vs = ap (λ (l : List (List ℕ)). map (λ p. a_value p) l) (drop_get i qs g.0 g.1 ∙ ap (λ j. g.0 ∷ drop j qs) s) in
        (a_value g.0, vs ++ p.1, o, pushed ps new (Parts at n (i + 1)) vs p.1 e (k.0, qs, k.2, k.3, k.4, refl) p.3, λ L R. alike_same L R (p.4 ∙ ap (λ (l : List Compared). l ++ p.1) (k.5 ∙ d)))

    -- the next of some copies
    pub next_copy : (new : List Pending) (at n : ℕ) → all ≡ ps ++ Copies at n ∷ [] → 0 < n → new ≡ ps ++ Copies at (n - 1) ∷ [] → Nexts new (Other at) us
    next_copy new at n q i e =
        let p = popped all ps (Copies at n) us q a in
        let k = p.2 in
        let x = k.0 in
        let c : n ≡ suc (n - 1) = omega (arith, i) in
        let s : us ≡ a_copy x ∷ replicate (n - 1) (a_copy x) ++ p.1 = p.4 ∙ ap (λ (l : List Compared). l ++ p.1) (k.2 ∙ ap (λ n. replicate n (a_copy x)) c) in
        (a_copy x, replicate (n - 1) (a_copy x) ++ p.1, (at, k.1, refl), pushed ps new (Copies at (n - 1)) (replicate (n - 1) (a_copy x)) p.1 e (x, k.1, refl) p.3, λ L R. alike_same L R s)

    -- there is none, or they have no bytes
    pub end_copies : (at n : ℕ) → all ≡ ps ++ Copies at n ∷ [] → ((x : List ℕ) → IsAt ns at x → (n ≡ 0) ⊎ HasNoBytes F x) → (vs : List Compared) × ArePending F ns (reverse ps) vs × ((L R : List ℕ) → AreAlike F us L R vs L R)
    end_copies at n q z =
        let p = popped all ps (Copies at n) us q a in
        let k = p.2 in
        let x = k.0 in
        let s : us ≡ replicate n (a_copy x) ++ p.1 = p.4 ∙ ap (λ (l : List Compared). l ++ p.1) k.2 in (
          p.1,
          p.3,
          λ L R. alike_both (alike_same L R s) (elim (z x k.1) [
            | inl e ↦ alike_same L R (ap (λ n. replicate n (a_copy x) ++ p.1) e)
            | inr h ↦ zeros_tell F x n p.1 L R h
          ]),
        )

    pub copied_at : (at i : ℕ) → all ≡ ps ++ PartCopies at i ∷ [] → (x : List ℕ) × (f : Form) × IsAt ns at x × (F x ≡ Some f)
    copied_at at i q = let k = (popped all ps (PartCopies at i) us q a).2 in (k.0, k.1, k.2, k.3)

    -- the next part of a definition
    pub next_part_copy : (new : List Pending) (at i part : ℕ) (q : all ≡ ps ++ PartCopies at i ∷ []) → IsPartAt ns (references (shape_of_form (copied_at at i q).1)) i (Some part) → new ≡ ps ++ PartCopies at (i + 1) ∷ [] → Nexts new (Other part) us
    unfolding popped copied_at
    next_part_copy new at i part q g e =
        let p = popped all ps (PartCopies at i) us q a in
        let k = p.2 in
        let qs = references (shape_of_form k.1) in
        let s : suc i ≡ i + 1 = omega arith in
        let vs = map (λ p. a_copy p) (drop (i + 1) qs) in
        let d : map (λ p. a_copy p) (drop i qs) ≡ a_copy g.0 ∷ vs = ap (λ (l : List (List ℕ)). map (λ p. a_copy p) l) (drop_get i qs g.0 g.1 ∙ ap (λ j. g.0 ∷ drop j qs) s) in
        (a_copy g.0, vs ++ p.1, (part, g.2, refl), pushed ps new (PartCopies at (i + 1)) vs p.1 e (k.0, k.1, k.2, k.3, refl) p.3, λ L R. alike_same L R (p.4 ∙ ap (λ (l : List Compared). l ++ p.1) (k.4 ∙ d)))

    pub end_part_copies : (at i : ℕ) (q : all ≡ ps ++ PartCopies at i ∷ []) → IsPartAt ns (references (shape_of_form (copied_at at i q).1)) i None → (vs : List Compared) × ArePending F ns (reverse ps) vs × ((L R : List ℕ) → AreAlike F us L R vs L R)
    unfolding popped copied_at
    end_part_copies at i q g =
        let p = popped all ps (PartCopies at i) us q a in
        let k = p.2 in
        let d : map (λ p. a_copy p) (drop i (references (shape_of_form k.1))) ≡ [] = ap (λ (l : List (List ℕ)). map (λ p. a_copy p) l) (past_all i (references (shape_of_form k.1)) g) in
        (p.1, p.3, λ L R. alike_same L R (p.4 ∙ ap (λ (l : List Compared). l ++ p.1) (k.4 ∙ d)))

  pub nothing_pends : (ps : List Pending) (us : List Compared) (L R : List ℕ) → length ps ≡ 0 → ArePending F ns (reverse ps) us → IsAtLeast F us L R
  nothing_pends (p ∷ ps) us L R e a = absurd (omega (arith, e))
  nothing_pends [] us L R e a = subst (λ (us : List Compared). IsAtLeast F us L R) (sym a) all_equal

  -- ---- answers
  -- of what comes first
  pub front_answers : (ts : List Compared) (L R : List ℕ) (x : List Compared) (M S N T : List ℕ) (ps : List Pending) (o : Ordering) (b : Bool) → AreAlike F ts L R x M S → Fronts ps x M S N T o → (o ≡ Equal → ⊥) → MatchBool b (o ≡ Less → ⊥) (o ≡ Less) → MatchBool b (IsAtLeast F ts L R) (IsAtLeast F ts L R → ⊥)
  front_answers ts L R x M S N T ps Less true a h n t = absurd (t refl)
  front_answers ts L R x M S N T ps Less false a h n t = λ v. h (a.1 v)
  front_answers ts L R x M S N T ps Equal b a h n t = absurd (n refl)
  front_answers ts L R x M S N T ps Greater true a h n t = a.0 h
  front_answers ts L R x M S N T ps Greater false a h n t = cc

  -- of what is pending
  pub pending_answers : (ts : List Compared) (L R : List ℕ) (x : List Compared) (M S : List ℕ) (o : Ordering) (b : Bool) → AreAlike F ts L R x M S → MatchOrdering o (IsAtLeast F x M S → ⊥) (IsAtLeast F x M S) (IsAtLeast F x M S) → MatchBool b (o ≡ Less → ⊥) (o ≡ Less) → MatchBool b (IsAtLeast F ts L R) (IsAtLeast F ts L R → ⊥)
  pending_answers ts L R x M S Less true a h t = absurd (t refl)
  pending_answers ts L R x M S Less false a h t = λ v. h (a.1 v)
  pending_answers ts L R x M S Equal true a h t = a.0 h
  pending_answers ts L R x M S Equal false a h t = cc
  pending_answers ts L R x M S Greater true a h t = a.0 h
  pending_answers ts L R x M S Greater false a h t = cc

  pub pending_decides : (ts x : List Compared) (L R : List ℕ) (o q : Ordering) → AreAlike F ts L R x L R → o ≡ q → MatchOrdering q (IsAtLeast F x L R → ⊥) (IsAtLeast F x L R) (IsAtLeast F x L R) → MatchOrdering o (IsAtLeast F ts L R → ⊥) (IsAtLeast F ts L R) (IsAtLeast F ts L R)
  pending_decides ts x L R o q a e h = subst (λ o. MatchOrdering o (IsAtLeast F ts L R → ⊥) (IsAtLeast F ts L R) (IsAtLeast F ts L R)) (sym e) (by q h)
    where
      by : (q : Ordering) → MatchOrdering q (IsAtLeast F x L R → ⊥) (IsAtLeast F x L R) (IsAtLeast F x L R) → MatchOrdering q (IsAtLeast F ts L R → ⊥) (IsAtLeast F ts L R) (IsAtLeast F ts L R)
      by Less h = λ v. h (a.1 v)
      by Equal h = a.0 h
      by Greater h = a.0 h
