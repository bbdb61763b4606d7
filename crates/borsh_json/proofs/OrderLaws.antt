-- What is compared, one after another: the first values that differ decide.
use Rattle.std.proofs.{Common.{◌≡◌, ◌⊎◌, inl, inr, ℕ, suc, zero, ◌<◌, ◌≤◌, ◌^◌, List, [], ◌∷◌, ◌++◌, length, map, replicate, get_or, Bool, Option, Some, None, refl, sym, ◌∙◌, ap, subst, arith, append_assoc, length-append, ℤ, pos, negsuc, false, codes, option_map, All, Ordering, Less, Equal, Greater}, lemmas.Bool.Decides.{nat_tests}}
use Rattle.std.specs.{Ordering.{nat_cmp, int_cmp, MatchOrdering}, Cmp.Lexicographic.{slice_cmp}, Cmp.{nat_cmp_is}}
use Rattle.borsh_walks.specs.Container.{Shape, tag, zeroed}
use Rattle.borsh_walks.specs.Container as shape
use Rattle.borsh_values.proofs.MemberLaws.{same_front}
use Rattle.borsh_json.specs.{Forms.{Form, primitive, sequence, tuple, shape_of_form, HasNoBytes}, Table.{Kind, truth, whole, primitive_kind, InRange}, Ordered.{IsListName, Order, single, numbers, text, array, list, parts, other, AreNumbers, OrdersBytes, HasOrder, node_size, IsCount, HasParts, IsNode, Compared, a_value, a_copy, elements, IsCopy, Fronts, FrontsOf, IsAtLeast, first_above, first_equal}, Integers.{IsEncoded}, Orders.{AreAlike}}
use Rattle.borsh_json.proofs.{IntegerLaws.{number_there}, OrderNumbers.{long_tag, one_low}, RepresentsLaws.{option_one}}

pub clash : {A : Type 0} (o : Option A) {f g : A} → o ≡ Some f → o ≡ Some g → (f ≡ g → ⊥) → ⊥
clash o {f = f} {g = g} a b n = let e : Some f ≡ Some g = sym a ∙ b in n cc

one_sign : (k : Kind) (n : ℕ) (s t : Bool) → AreNumbers k n s → AreNumbers k n t → s ≡ t
one_sign k n s t (inl a) (inl b) = a.1 ∙ sym b.1
one_sign k n s t (inl a) (inr b) = let e : truth ≡ whole n t b.0 = sym a.0 ∙ b.1 in cc
one_sign k n s t (inr a) (inl b) = let e : truth ≡ whole n s a.0 = sym b.0 ∙ a.1 in cc
one_sign k n s t (inr a) (inr b) = let e : whole n s a.0 ≡ whole n t b.0 = sym a.1 ∙ b.1 in cc

-- the number that so many bytes are
pub count_there : (w : ℕ) (bs : List ℕ) (r : ℕ) → (w ≡ 1) ⊎ (w ≡ 4) → length bs ≡ w → All (λ b. b < 256) bs → ((n : ℕ) → n < 256 ^ 1 → bs ≡ tag 1 (pos n) → r ≡ n) → ((n : ℕ) → n < 256 ^ 4 → bs ≡ tag 4 (pos n) → r ≡ n) → (r < 256 ^ w) × (bs ≡ tag w (pos r))
count_there w bs r e l small one four = by z.0 z.1.0 z.1.1
  where
    z : (z : ℤ) × IsEncoded w false z bs
    z = number_there false w bs l small

    by : (z : ℤ) → bs ≡ tag w z → InRange w false z → (r < 256 ^ w) × (bs ≡ tag w (pos r))
    by (negsuc m) t i = absurd i
    by (pos m) t i =
        let q : r ≡ m = elim e [
          | inl h ↦ one m (subst (λ w. m < 256 ^ w) h i) (subst (λ w. bs ≡ tag w (pos m)) h t)
          | inr h ↦ four m (subst (λ w. m < 256 ^ w) h i) (subst (λ w. bs ≡ tag w (pos m)) h t)
        ] in
        (subst (λ n. n < 256 ^ w) (sym q) i, subst (λ n. bs ≡ tag w (pos n)) (sym q) t)

module _ (F : List ℕ → Option Form) where
  named_list : (x e : List ℕ) → IsListName F x e → x ≡ codes "String" → ⊥
  named_list x e (inl (inl n)) t = let q : codes "String" ≡ codes "Vec<" ++ e ++ codes ">" = sym t ∙ n in let h : 83 ≡ 86 = ap (λ l. get_or l 0 0) q in omega (arith, h)
  named_list x e (inl (inr (inl n))) t = let q : codes "String" ≡ codes "VecDeque<" ++ e ++ codes ">" = sym t ∙ n in let h : 83 ≡ 86 = ap (λ l. get_or l 0 0) q in omega (arith, h)
  named_list x e (inl (inr (inr (inl n)))) t = let q : codes "String" ≡ codes "LinkedList<" ++ e ++ codes ">" = sym t ∙ n in let h : 83 ≡ 76 = ap (λ l. get_or l 0 0) q in omega (arith, h)
  named_list x e (inl (inr (inr (inr n)))) t = let q : codes "String" ≡ codes "BTreeSet<" ++ e ++ codes ">" = sym t ∙ n in let h : 83 ≡ 66 = ap (λ l. get_or l 0 0) q in omega (arith, h)
  named_list x e (inr n) t = let q : codes "String" ≡ codes "BTreeMap<" ++ n.0 ++ codes ", " ++ n.1 ++ codes ">" = sym t ∙ n.3 in let h : 83 ≡ 66 = ap (λ l. get_or l 0 0) q in omega (arith, h)

  bytes_one : (x : List ℕ) (o q : Order) → OrdersBytes F x o → OrdersBytes F x q → o ≡ q
  bytes_one x single q a b = absurd a
  bytes_one x other q a b = absurd a
  bytes_one x (numbers n s) single a b = absurd b
  bytes_one x (numbers n s) (numbers m t) a b =
      let e : Some (primitive n) ≡ Some (primitive m) = sym a.0 ∙ b.0 in
      let k : n ≡ m = cc in
      let h : s ≡ t = one_sign _ m s t (subst (λ n. AreNumbers (primitive_kind x n) n s) k a.1) b.1 in
      ap (λ n. numbers n s) k ∙ ap (λ s. numbers m s) h
  bytes_one x (numbers n s) text a b = absurd (clash (F x) a.0 b.1 (λ e. cc))
  bytes_one x (numbers n s) (array m d) a b = absurd (clash (F x) a.0 b.0 (λ e. cc))
  bytes_one x (numbers n s) (list w d) a (inl b) = absurd (clash (F x) a.0 b.1.0 (λ e. cc))
  bytes_one x (numbers n s) (list w d) a (inr b) = absurd (clash (F x) a.0 b.1.1 (λ e. cc))
  bytes_one x (numbers n s) (parts ps) a b = absurd (clash (F x) a.0 b.0 (λ e. cc))
  bytes_one x (numbers n s) other a b = absurd b
  bytes_one x text single a b = absurd b
  bytes_one x text (numbers n s) a b = absurd (clash (F x) a.1 b.0 (λ e. cc))
  bytes_one x text text a b = refl
  bytes_one x text (array m d) a b = absurd (clash (F x) a.1 b.0 (λ e. cc))
  bytes_one x text (list w d) a (inl b) = absurd (named_list x d b.1.1 a.0)
  bytes_one x text (list w d) a (inr b) = absurd (clash (F x) a.1 b.1.1 (λ e. cc))
  bytes_one x text (parts ps) a b = absurd (clash (F x) a.1 b.0 (λ e. cc))
  bytes_one x text other a b = absurd b
  bytes_one x (array n e) single a b = absurd b
  bytes_one x (array n e) (numbers m s) a b = absurd (clash (F x) a.0 b.0 (λ e. cc))
  bytes_one x (array n e) text a b = absurd (clash (F x) a.0 b.1 (λ e. cc))
  bytes_one x (array n e) (array m d) a b = let g : Some (sequence 0 n n e) ≡ Some (sequence 0 m m d) = sym a.0 ∙ b.0 in cc
  bytes_one x (array n e) (list w d) a (inl b) = absurd (clash (F x) a.0 b.1.0 (λ e. cc))
  bytes_one x (array n e) (list w d) a (inr b) = absurd (clash (F x) a.0 b.1.1 (λ e. cc))
  bytes_one x (array n e) other a b = absurd b
  bytes_one x (array n e) (parts ps) a b = absurd (clash (F x) a.0 b.0 (λ e. cc))
  bytes_one x (list v e) single a b = absurd b
  bytes_one x (list v e) (numbers m s) (inl a) b = absurd (clash (F x) a.1.0 b.0 (λ e. cc))
  bytes_one x (list v e) (numbers m s) (inr a) b = absurd (clash (F x) a.1.1 b.0 (λ e. cc))
  bytes_one x (list v e) text (inl a) b = absurd (named_list x e a.1.1 b.0)
  bytes_one x (list v e) text (inr a) b = absurd (clash (F x) a.1.1 b.1 (λ e. cc))
  bytes_one x (list v e) (array m d) (inl a) b = absurd (clash (F x) a.1.0 b.0 (λ e. cc))
  bytes_one x (list v e) (array m d) (inr a) b = absurd (clash (F x) a.1.1 b.0 (λ e. cc))
  bytes_one x (list v e) (list w d) (inl a) (inl b) =
      let g : Some (sequence 4 0 4294967295 e) ≡ Some (sequence 4 0 4294967295 d) = sym a.1.0 ∙ b.1.0 in
      let h : e ≡ d = cc in
      ap (λ v. list v e) (a.0 ∙ sym b.0) ∙ ap (λ e. list w e) h
  bytes_one x (list v e) (list w d) (inl a) (inr b) = absurd (clash (F x) a.1.0 b.1.1 (λ e. cc))
  bytes_one x (list v e) (list w d) (inr a) (inl b) = absurd (clash (F x) a.1.1 b.1.0 (λ e. cc))
  bytes_one x (list v e) (list w d) (inr a) (inr b) = ap (λ v. list v e) (a.0 ∙ sym b.0) ∙ ap (λ e. list w e) (option_one F a.1 b.1)
  bytes_one x (list v e) (parts ps) (inl a) b = absurd (clash (F x) a.1.0 b.0 (λ e. cc))
  bytes_one x (list v e) (parts ps) (inr a) b = absurd (clash (F x) a.1.1 b.0 (λ e. cc))
  bytes_one x (list v e) other a b = absurd b
  bytes_one x (parts ps) single a b = absurd b
  bytes_one x (parts ps) (numbers m s) a b = absurd (clash (F x) a.0 b.0 (λ e. cc))
  bytes_one x (parts ps) text a b = absurd (clash (F x) a.0 b.1 (λ e. cc))
  bytes_one x (parts ps) (array m d) a b = absurd (clash (F x) a.0 b.0 (λ e. cc))
  bytes_one x (parts ps) (list w d) a (inl b) = absurd (clash (F x) a.0 b.1.0 (λ e. cc))
  bytes_one x (parts ps) (list w d) a (inr b) = absurd (clash (F x) a.0 b.1.1 (λ e. cc))
  bytes_one x (parts ps) (parts qs) a b = let g : Some (tuple ps) ≡ Some (tuple qs) = sym a.0 ∙ b.0 in cc
  bytes_one x (parts ps) other a b = absurd b

  -- each name has at most one order
  pub order_one : (x : List ℕ) (o q : Order) → HasOrder F x o → HasOrder F x q → o ≡ q
  order_one x o q (inl a) (inl b) = a.1 ∙ sym b.1
  order_one x o q (inl a) (inr b) = absurd (b.0 a.0)
  order_one x o q (inr a) (inl b) = absurd (a.0 b.0)
  order_one x o q (inr (n, inl a)) (inr (m, inl b)) = bytes_one x o q a b
  order_one x o q (inr (n, inl a)) (inr (m, inr b)) = absurd (b.1 o a)
  order_one x o q (inr (n, inr a)) (inr (m, inl b)) = absurd (a.1 q b)
  order_one x o q (inr (n, inr a)) (inr (m, inr b)) = a.0 ∙ sym b.0

  -- ---- what comes before the parts
  pub record Front (t : Compared) (ts : List Compared) (L R : List ℕ) : Type 0 where
    pub l : List ℕ
    pub r : List ℕ
    pub A : List ℕ
    pub B : List ℕ
    pub o : Ordering
    pub us : List Compared
    pub fronts : FrontsOf F t l r o us
    pub left : L ≡ l ++ A
    pub right : R ≡ r ++ B
    pub behind : (o ≡ Greater) ⊎ ((o ≡ Equal) × IsAtLeast F (us ++ ts) A B)

  pub front : {t : Compared} {ts : List Compared} {L R : List ℕ} → IsAtLeast F (t ∷ ts) L R → Front t ts L R
  front (first_above l r bs cs us f) = record { l = l; r = r; A = bs; B = cs; o = Greater; us = us; fronts = f; left = refl; right = refl; behind = inl refl }
  front (first_equal {bs = bs} {cs = cs} l r us f h) = record { l = l; r = r; A = bs; B = cs; o = Equal; us = us; fronts = f; left = refl; right = refl; behind = inr (refl, h) }

  pub moved : {ts us : List Compared} {L M R S : List ℕ} → ts ≡ us → L ≡ M → R ≡ S → IsAtLeast F ts L R → IsAtLeast F us M S
  moved {ts = ts} {us = us} {L = L} {M = M} {R = R} p q e h = subst (λ S. IsAtLeast F us M S) e (subst (λ M. IsAtLeast F us M R) q (subst (λ (ts : List Compared). IsAtLeast F ts L R) p h))

  -- where an order decides, or says that the others do
  abbrev pub Tells : Compared → List Compared → List ℕ → List ℕ → List ℕ → List ℕ → Ordering → List Compared → Type 0
  Tells t ts L R M S o us = MatchOrdering o (IsAtLeast F (t ∷ ts) L R → ⊥) (AreAlike F (t ∷ ts) L R (us ++ ts) M S) (IsAtLeast F (t ∷ ts) L R)

  -- all fronts of two byte strings are the same
  abbrev pub IsOnly : Compared → List ℕ → List ℕ → List ℕ → List ℕ → Ordering → List Compared → Type 0
  IsOnly t L R M S o us = (l r A B : List ℕ) (p : Ordering) (vs : List Compared) → FrontsOf F t l r p vs → L ≡ l ++ A → R ≡ r ++ B → (p ≡ o) × (A ≡ M) × (B ≡ S) × (vs ≡ us)

  abbrev pub IsThere : Compared → List ℕ → List ℕ → List ℕ → List ℕ → Ordering → List Compared → Type 0
  IsThere t L R M S o us = (l : List ℕ) × (r : List ℕ) × FrontsOf F t l r o us × (L ≡ l ++ M) × (R ≡ r ++ S)

  greater_less : (o : Ordering) → o ≡ Greater → o ≡ Less → ⊥
  greater_less o a b = let e : Greater ≡ Less = sym a ∙ b in cc

  equal_less : (o : Ordering) → o ≡ Equal → o ≡ Less → ⊥
  equal_less o a b = let e : Equal ≡ Less = sym a ∙ b in cc

  greater_equal : (o : Ordering) → o ≡ Greater → o ≡ Equal → ⊥
  greater_equal o a b = let e : Greater ≡ Equal = sym a ∙ b in cc

  pub tells : (t : Compared) (ts : List Compared) (L R M S : List ℕ) (o : Ordering) (us : List Compared) → IsOnly t L R M S o us → ((o ≡ Less → ⊥) → IsThere t L R M S o us) → Tells t ts L R M S o us
  tells t ts L R M S Less us only there = λ h.
      let f = front h in
      let q = only f.l f.r f.A f.B f.o f.us f.fronts f.left f.right in
      elim f.behind [ inl g ↦ greater_less f.o g q.0 | inr g ↦ equal_less f.o g.0 q.0 ]
  tells t ts L R M S Equal us only there = (
    (λ h. (let w = there (λ e. cc) in moved {ts = t ∷ ts} refl (sym w.3) (sym w.4) (first_equal w.0 w.1 us w.2 h))),
    (λ h. (let f = front h in
        let q = only f.l f.r f.A f.B f.o f.us f.fronts f.left f.right in
        elim f.behind [ inl g ↦ absurd (greater_equal f.o g q.0) | inr g ↦ moved (ap (λ (us : List Compared). us ++ ts) q.3) q.1 q.2 g.1 ])),
  )
  tells t ts L R M S Greater us only there = let w = there (λ e. cc) in moved {ts = t ∷ ts} refl (sym w.3) (sym w.4) (first_above w.0 w.1 M S us w.2)

  -- bytes that are too few or that differ
  pub none_tells : (t : Compared) (ts : List Compared) (L R : List ℕ) → ((l r A B : List ℕ) (p : Ordering) (vs : List Compared) → FrontsOf F t l r p vs → L ≡ l ++ A → R ≡ r ++ B → ⊥) → IsAtLeast F (t ∷ ts) L R → ⊥
  none_tells t ts L R none h = let f = front h in none f.l f.r f.A f.B f.o f.us f.fronts f.left f.right

  pub alike_then : (vs : List Compared) {ts us : List Compared} {L R M S : List ℕ} (o : Ordering) → AreAlike F ts L R us M S → MatchOrdering o (IsAtLeast F us M S → ⊥) (AreAlike F us M S vs M S) (IsAtLeast F us M S) → MatchOrdering o (IsAtLeast F ts L R → ⊥) (AreAlike F ts L R vs M S) (IsAtLeast F ts L R)
  alike_then vs Less a h = λ t. h (a.1 t)
  alike_then vs Equal a h = ((λ v. a.0 (h.0 v)), (λ t. h.1 (a.1 t)))
  alike_then vs Greater a h = a.0 h

  -- ---- without own bytes
  silent_tells : (t : Compared) (ts us : List Compared) (L R : List ℕ) → ((l r : List ℕ) (p : Ordering) (vs : List Compared) → FrontsOf F t l r p vs → (l ≡ []) × (r ≡ []) × (p ≡ Equal) × (vs ≡ us)) → FrontsOf F t [] [] Equal us → AreAlike F (t ∷ ts) L R (us ++ ts) L R
  silent_tells t ts us L R all f = tells t ts L R L R Equal us
      (λ l r A B p vs g a b. (let q = all l r p vs g in (q.2, sym (a ∙ ap (λ l. l ++ A) q.0), sym (b ∙ ap (λ r. r ++ B) q.1), q.3)))
      (λ n. ([], [], f, refl, refl))

  -- the order of a value is that of its name
  abbrev pub value_fronts : (x : List ℕ) (o : Order) (l r : List ℕ) (p : Ordering) (vs : List Compared) → HasOrder F x o → FrontsOf F (a_value x) l r p vs → Fronts F x o l r p vs
  value_fronts x o l r p vs h f = subst (λ (q : Order). Fronts F x q l r p vs) (order_one x f.0 o f.1 h) f.2

  pub single_tells : (x : List ℕ) (ts : List Compared) (L R : List ℕ) → HasOrder F x single → AreAlike F (a_value x ∷ ts) L R ts L R
  single_tells x ts L R h = silent_tells (a_value x) ts [] L R (λ l r p vs f. value_fronts x single l r p vs h f) (single, h, (refl, refl, refl, refl))

  pub array_tells : (x : List ℕ) (n : ℕ) (e : List ℕ) (ts : List Compared) (L R : List ℕ) → HasOrder F x (array n e) → AreAlike F (a_value x ∷ ts) L R (elements e n n ∷ ts) L R
  array_tells x n e ts L R h = silent_tells (a_value x) ts (elements e n n ∷ []) L R (λ l r p vs f. value_fronts x (array n e) l r p vs h f) (array n e, h, (refl, refl, refl, refl))

  pub parts_tell : (x : List ℕ) (ps : List (List ℕ)) (ts : List Compared) (L R : List ℕ) → HasOrder F x (parts ps) → AreAlike F (a_value x ∷ ts) L R (map (λ p. a_value p) ps ++ ts) L R
  parts_tell x ps ts L R h = silent_tells (a_value x) ts (map (λ p. a_value p) ps) L R (λ l r p vs f. value_fronts x (parts ps) l r p vs h f) (parts ps, h, (refl, refl, refl, refl))

  -- ---- numbers and texts
  pub some_bytes : (x : List ℕ) (n : ℕ) (signed : Bool) → HasOrder F x (numbers n signed) → 0 < n
  some_bytes x n signed (inl (z, e)) = cc
  some_bytes x zero signed (inr (z, inl f)) = absurd (z (zeroed (shape.primitive 0) [] (ap (λ o. option_map shape_of_form o) f.0) refl (λ p i. elim i [ ])))
  some_bytes x (suc n) signed (inr (z, inl f)) = omega arith
  some_bytes x n signed (inr (z, inr f)) = let e = f.0 in cc

  room : (n : ℕ) (L l A : List ℕ) → L ≡ l ++ A → length l ≡ n → n ≤ length L
  room n L l A e h = let p = ap (λ l. length l) e ∙ length-append l A in omega (arith, p, h)

  abbrev pub NumbersCompare : ℕ → Bool → List ℕ → List ℕ → List ℕ → List ℕ → Ordering → Type 0
  NumbersCompare n signed L R M S o =
      ((o ≡ Less) × (n ≤ length L → n ≤ length R → ⊥))
      ⊎ ((l : List ℕ) × (r : List ℕ) × (length l ≡ n) × (length r ≡ n) × All (λ b. b < 256) l × All (λ b. b < 256) r × (L ≡ l ++ M) × (R ≡ r ++ S)
      × ((y z : ℤ) → 0 < n → InRange n signed y → InRange n signed z → l ≡ tag n y → r ≡ tag n z → o ≡ int_cmp y z))

  pub numbers_tell : (x : List ℕ) (n : ℕ) (signed : Bool) (ts : List Compared) (L R M S : List ℕ) (o : Ordering) → HasOrder F x (numbers n signed) → NumbersCompare n signed L R M S o → Tells (a_value x) ts L R M S o []
  numbers_tell x n signed ts L R M S o h (inl (less, short)) = subst (λ o. Tells (a_value x) ts L R M S o []) (sym less) (none_tells (a_value x) ts L R (λ l r A B p vs f a b.
      (let q = value_fronts x (numbers n signed) l r p vs h f in
      short (room n L l A a (ap (λ l. length l) q.4 ∙ long_tag n q.0)) (room n R r B b (ap (λ l. length l) q.5 ∙ long_tag n q.1)))))
  numbers_tell x n signed ts L R M S o h (inr c) =
      let some = some_bytes x n signed h in
      let l = c.0 in
      let r = c.1 in
      tells (a_value x) ts L R M S o []
      (λ k s A B p vs f a b.
      (let q = value_fronts x (numbers n signed) k s p vs h f in
      let u = same_front k l A M (sym a ∙ c.6) (ap (λ l. length l) q.4 ∙ long_tag n q.0 ∙ sym c.2) in
      let v = same_front s r B S (sym b ∙ c.7) (ap (λ l. length l) q.5 ∙ long_tag n q.1 ∙ sym c.3) in
      (q.6 ∙ sym (c.8 q.0 q.1 some q.2 q.3 (sym u.0 ∙ q.4) (sym v.0 ∙ q.5)), u.1, v.1, q.7)))
      (λ d.
      (let y = number_there signed n l c.2 c.4 in
      let z = number_there signed n r c.3 c.5 in
      (l, r, (numbers n signed, h, (y.0, z.0, y.1.1, z.1.1, y.1.0, z.1.0, c.8 y.0 z.0 some y.1.1 z.1.1 y.1.0 z.1.0, refl)), c.6, c.7)))

  abbrev written : List ℕ → List ℕ
  written s = tag 4 (pos (length s)) ++ s

  text_one : (s t A M : List ℕ) → length s < 256 ^ 4 → length t < 256 ^ 4 → written s ++ A ≡ written t ++ M → (s ≡ t) × (A ≡ M)
  text_one s t A M i j e =
      let c = same_front (tag 4 (pos (length s))) (tag 4 (pos (length t))) (s ++ A) (t ++ M) (sym (append_assoc (tag 4 (pos (length s))) s A) ∙ e ∙ append_assoc (tag 4 (pos (length t))) t M) (long_tag 4 (pos (length s)) ∙ sym (long_tag 4 (pos (length t)))) in
      same_front s t A M c.1 (one_low 4 (length s) (length t) i j c.0)

  abbrev pub TextsCompare : List ℕ → List ℕ → List ℕ → List ℕ → Ordering → Type 0
  TextsCompare L R M S o =
      ((o ≡ Less) × ((s t bs cs : List ℕ) → length s < 256 ^ 4 → length t < 256 ^ 4 → L ≡ (tag 4 (pos (length s)) ++ s) ++ bs → R ≡ (tag 4 (pos (length t)) ++ t) ++ cs → ⊥))
      ⊎ ((s : List ℕ) × (t : List ℕ) × (length s < 256 ^ 4) × (length t < 256 ^ 4) × (L ≡ (tag 4 (pos (length s)) ++ s) ++ M) × (R ≡ (tag 4 (pos (length t)) ++ t) ++ S) × (o ≡ slice_cmp nat_cmp s t))

  pub texts_tell : (x : List ℕ) (ts : List Compared) (L R M S : List ℕ) (o : Ordering) → HasOrder F x text → TextsCompare L R M S o → Tells (a_value x) ts L R M S o []
  texts_tell x ts L R M S o h (inl (less, none)) = subst (λ o. Tells (a_value x) ts L R M S o []) (sym less) (none_tells (a_value x) ts L R (λ l r A B p vs f a b.
      (let q = value_fronts x text l r p vs h f in
      none q.0 q.1 A B q.2 q.3 (a ∙ ap (λ l. l ++ A) q.4) (b ∙ ap (λ r. r ++ B) q.5))))
  texts_tell x ts L R M S o h (inr c) =
      let s = c.0 in
      let t = c.1 in
      tells (a_value x) ts L R M S o []
      (λ l r A B p vs f a b.
      (let q = value_fronts x text l r p vs h f in
      let u = text_one q.0 s A M q.2 c.2 (sym (a ∙ ap (λ l. l ++ A) q.4) ∙ c.4) in
      let v = text_one q.1 t B S q.3 c.3 (sym (b ∙ ap (λ r. r ++ B) q.5) ∙ c.5) in
      (q.6 ∙ ap (λ s. slice_cmp nat_cmp s q.1) u.0 ∙ ap (λ t. slice_cmp nat_cmp s t) v.0 ∙ sym c.6, u.1, v.1, q.7)))
      (λ d. (written s, written t, (text, h, (s, t, c.2, c.3, refl, refl, c.6, refl)), c.4, c.5))

  -- ---- lists
  counts_one : (w n m : ℕ) (A M : List ℕ) → n < 256 ^ w → m < 256 ^ w → tag w (pos n) ++ A ≡ tag w (pos m) ++ M → (n ≡ m) × (A ≡ M)
  counts_one w n m A M i j e =
      let c = same_front (tag w (pos n)) (tag w (pos m)) A M e (long_tag w (pos n) ∙ sym (long_tag w (pos m))) in
      (one_low w n m i j c.0, c.1)

  pub list_tells : (x : List ℕ) (w : ℕ) (e : List ℕ) (n m : ℕ) (ts : List Compared) (L R M S : List ℕ) → HasOrder F x (list w e) → n < 256 ^ w → m < 256 ^ w → L ≡ tag w (pos n) ++ M → R ≡ tag w (pos m) ++ S → AreAlike F (a_value x ∷ ts) L R (elements e n m ∷ ts) M S
  list_tells x w e n m ts L R M S h i j c d = tells (a_value x) ts L R M S Equal (elements e n m ∷ [])
      (λ l r A B p vs f a b.
      (let q = value_fronts x (list w e) l r p vs h f in
      let u = counts_one w q.0 n A M q.2 i (sym (a ∙ ap (λ l. l ++ A) q.4) ∙ c) in
      let v = counts_one w q.1 m B S q.3 j (sym (b ∙ ap (λ r. r ++ B) q.5) ∙ d) in
      (q.6, u.1, v.1, q.7 ∙ ap (λ n. elements e n q.1 ∷ []) u.0 ∙ ap (λ m. elements e n m ∷ []) v.0)))
      (λ k. (tag w (pos n), tag w (pos m), (list w e, h, (n, m, i, j, refl, refl, refl, refl)), c, d))

  pub list_short : (x : List ℕ) (w : ℕ) (e : List ℕ) (ts : List Compared) (L R : List ℕ) → HasOrder F x (list w e) → (w ≤ length L → w ≤ length R → ⊥) → IsAtLeast F (a_value x ∷ ts) L R → ⊥
  list_short x w e ts L R h short = none_tells (a_value x) ts L R (λ l r A B p vs f a b.
      (let q = value_fronts x (list w e) l r p vs h f in
      short (room w L l A a (ap (λ l. length l) q.4 ∙ long_tag w (pos q.0))) (room w R r B b (ap (λ l. length l) q.5 ∙ long_tag w (pos q.1)))))

  pub element_tells : (e : List ℕ) (n m : ℕ) (ts : List Compared) (L R : List ℕ) → AreAlike F (elements e (suc n) (suc m) ∷ ts) L R (a_value e ∷ elements e n m ∷ ts) L R
  element_tells e n m ts L R = silent_tells (elements e (suc n) (suc m)) ts (a_value e ∷ elements e n m ∷ []) L R (λ l r p vs f. f) (refl, refl, refl, refl)

  -- how lists of n and m elements compare, where one of them ends
  pub end_tells : (e : List ℕ) (n m : ℕ) (ts : List Compared) (L R : List ℕ) → (n ≡ 0) ⊎ (m ≡ 0) → MatchOrdering (nat_cmp n m) (IsAtLeast F (elements e n m ∷ ts) L R → ⊥) (AreAlike F (elements e n m ∷ ts) L R ts L R) (IsAtLeast F (elements e n m ∷ ts) L R)
  end_tells e zero zero ts L R h = silent_tells (elements e 0 0) ts [] L R (λ l r p vs f. f) (refl, refl, refl, refl)
  end_tells e zero (suc m) ts L R h =
      let k : Less ≡ nat_cmp 0 (suc m) = nat_cmp_is 0 (suc m) Less (omega arith) in
      subst (λ o. MatchOrdering o (IsAtLeast F (elements e 0 (suc m) ∷ ts) L R → ⊥) (AreAlike F (elements e 0 (suc m) ∷ ts) L R ts L R) (IsAtLeast F (elements e 0 (suc m) ∷ ts) L R)) k
      (λ a. (let f = front a in elim f.behind [ inl g ↦ greater_less f.o g f.fronts.2 | inr g ↦ equal_less f.o g.0 f.fronts.2 ]))
  end_tells e (suc n) zero ts L R h =
      let k : Greater ≡ nat_cmp (suc n) 0 = nat_cmp_is (suc n) 0 Greater (omega arith) in
      subst (λ o. MatchOrdering o (IsAtLeast F (elements e (suc n) 0 ∷ ts) L R → ⊥) (AreAlike F (elements e (suc n) 0 ∷ ts) L R ts L R) (IsAtLeast F (elements e (suc n) 0 ∷ ts) L R)) k
      (first_above [] [] L R [] (refl, refl, refl, refl))
  end_tells e (suc n) (suc m) ts L R (inl h) = absurd (omega (arith, h))
  end_tells e (suc n) (suc m) ts L R (inr h) = absurd (omega (arith, h))

  -- elements without bytes
  pub empty_tell : (e : List ℕ) (n m : ℕ) (ts : List Compared) (L R : List ℕ) → HasNoBytes F e → MatchOrdering (nat_cmp n m) (IsAtLeast F (elements e n m ∷ ts) L R → ⊥) (AreAlike F (elements e n m ∷ ts) L R ts L R) (IsAtLeast F (elements e n m ∷ ts) L R)
  empty_tell e zero m ts L R h = end_tells e zero m ts L R (inl refl)
  empty_tell e (suc n) zero ts L R h = end_tells e (suc n) zero ts L R (inr refl)
  empty_tell e (suc n) (suc m) ts L R h =
      let k : nat_cmp n m ≡ nat_cmp (suc n) (suc m) = grind (arith, nat_tests) in
      let a = element_tells e n m ts L R in
      let b = single_tells e (elements e n m ∷ ts) L R (inl (h, refl)) in
      let c : AreAlike F (elements e (suc n) (suc m) ∷ ts) L R (elements e n m ∷ ts) L R = ((λ v. a.0 (b.0 v)), (λ v. b.1 (a.1 v))) in
      subst (λ o. MatchOrdering o (IsAtLeast F (elements e (suc n) (suc m) ∷ ts) L R → ⊥) (AreAlike F (elements e (suc n) (suc m) ∷ ts) L R ts L R) (IsAtLeast F (elements e (suc n) (suc m) ∷ ts) L R)) k (alike_then ts (nat_cmp n m) c (empty_tell e n m ts L R h))

  -- ---- values whose order isn't told
  count_one : (w lo k j : ℕ) (own : List ℕ) → IsCount w lo own k → IsCount w lo own j → k ≡ j
  count_one zero lo k j own a b = a ∙ sym b
  count_one (suc w) lo k j own a b = a.1 ∙ sym b.1

  parts_one : (s : Shape) (own : List ℕ) (ps qs : List (List ℕ)) → HasParts s own ps → HasParts s own qs → ps ≡ qs
  parts_one (shape.primitive n) own ps qs a b = a ∙ sym b
  parts_one (shape.sequence w lo hi e) own ps qs a b = a.2 ∙ ap (λ k. replicate k e) (count_one w lo a.0 b.0 own a.1 b.1) ∙ sym b.2
  parts_one (shape.product rs) own ps qs a b = a ∙ sym b
  parts_one (shape.choice w vs) own ps qs a b =
      let e : Some a.1 ≡ Some b.1 = sym a.2 ∙ b.2 in
      let k : a.1 ≡ b.1 = cc in
      a.3 ∙ ap (λ (p : List ℕ). p ∷ []) k ∙ sym b.3

  node_one : (s : Shape) (own : List ℕ) (ps qs : List (List ℕ)) → IsNode s own ps → IsNode s own qs → ps ≡ qs
  node_one s own ps qs a b = parts_one s own ps qs a.1 b.1

  -- a value whose order isn't told, or a copy
  abbrev pub IsCopyOf : List ℕ → Compared → Type 0
  IsCopyOf x t = ((l r : List ℕ) (o : Ordering) (us : List Compared) → FrontsOf F t l r o us → IsCopy F x l r o us) × ((l r : List ℕ) (o : Ordering) (us : List Compared) → IsCopy F x l r o us → FrontsOf F t l r o us)

  pub other_copy : (x : List ℕ) → HasOrder F x other → IsCopyOf x (a_value x)
  other_copy x h = ((λ l r o us f. value_fronts x other l r o us h f), (λ l r o us f. (other, h, f)))

  pub copy_copy : (x : List ℕ) → IsCopyOf x (a_copy x)
  copy_copy x = ((λ l r o us f. f), (λ l r o us f. f))

  pub zero_tells : (x : List ℕ) (t : Compared) (ts : List Compared) (L R : List ℕ) → IsCopyOf x t → HasNoBytes F x → AreAlike F (t ∷ ts) L R ts L R
  zero_tells x t ts L R c z = silent_tells t ts [] L R (λ l r p vs f. (let q = c.0 l r p vs f in elim q.2 [
    | inl e ↦ (e.1, sym q.0 ∙ e.1, q.1, e.2)
    | inr e ↦ absurd (e.0 z)
  ])) (c.1 [] [] Equal [] (refl, refl, inl (z, refl, refl)))

  pub zeros_tell : (x : List ℕ) (n : ℕ) (ts : List Compared) (L R : List ℕ) → HasNoBytes F x → AreAlike F (replicate n (a_copy x) ++ ts) L R ts L R
  zeros_tell x zero ts L R z = ((λ h. h), (λ h. h))
  zeros_tell x (suc n) ts L R z =
      let a = zero_tells x (a_copy x) (replicate n (a_copy x) ++ ts) L R (copy_copy x) z in
      let b = zeros_tell x n ts L R z in
      ((λ h. a.0 (b.0 h)), (λ h. b.1 (a.1 h)))

  module _ (x : List ℕ) (t : Compared) (ts : List Compared) (L R : List ℕ) (c : IsCopyOf x t) (full : HasNoBytes F x → ⊥) where
    -- no definition
    pub undefined_tells : F x ≡ None → IsAtLeast F (t ∷ ts) L R → ⊥
    undefined_tells n = none_tells t ts L R (λ l r A B p vs f a b. (let q = c.0 l r p vs f in elim q.2 [ inl e ↦ full e.0 | inr e ↦ (let g = sym n ∙ e.3 in cc) ]))

    module _ (f : Form) (there : F x ≡ Some f) where
      abbrev size : ℕ
      size = node_size (shape_of_form f)

      sized : (own : List ℕ) (ps : List (List ℕ)) → IsNode (shape_of_form f) own ps → length own ≡ size
      sized own ps n = n.0

      node_of : (l r : List ℕ) (p : Ordering) (vs : List Compared) → FrontsOf F t l r p vs → (l ≡ r) × (p ≡ Equal) × (ps : List (List ℕ)) × IsNode (shape_of_form f) l ps × (vs ≡ map (λ p. a_copy p) ps)
      node_of l r p vs g = let q = c.0 l r p vs g in elim q.2 [
        | inl e ↦ absurd (full e.0)
        | inr e ↦ (let h : Some e.1 ≡ Some f = sym e.3 ∙ there in
            let k : e.1 ≡ f = cc in
            (q.0, q.1, e.2, subst (λ (f : Form). IsNode (shape_of_form f) l e.2) k e.4, e.5))
      ]

      -- own bytes that differ
      pub differ_tells : ((xs bs cs : List ℕ) → L ≡ xs ++ bs → R ≡ xs ++ cs → length xs ≡ size → ⊥) → IsAtLeast F (t ∷ ts) L R → ⊥
      differ_tells none = none_tells t ts L R (λ l r A B p vs g a b. (let q = node_of l r p vs g in none l A B a (b ∙ ap (λ r. r ++ B) (sym q.0)) (sized l q.2 q.3)))

      module _ (own M S : List ℕ) (own_is : length own ≡ size) (left : L ≡ own ++ M) (right : R ≡ own ++ S) where
        -- own bytes of no value
        pub no_node_tells : ((ps : List (List ℕ)) → IsNode (shape_of_form f) own ps → ⊥) → IsAtLeast F (t ∷ ts) L R → ⊥
        no_node_tells none = none_tells t ts L R (λ l r A B p vs g a b.
            (let q = node_of l r p vs g in
            let u = same_front l own A M (sym a ∙ left) (sized l q.2 q.3 ∙ sym own_is) in
            none q.2 (subst (λ l. IsNode (shape_of_form f) l q.2) u.0 q.3)))

        pub node_tells : (ps : List (List ℕ)) → IsNode (shape_of_form f) own ps → AreAlike F (t ∷ ts) L R (map (λ p. a_copy p) ps ++ ts) M S
        node_tells ps n = tells t ts L R M S Equal (map (λ p. a_copy p) ps)
            (λ l r A B p vs g a b.
            (let q = node_of l r p vs g in
            let u = same_front l own A M (sym a ∙ left) (sized l q.2 q.3 ∙ sym own_is) in
            let v = same_front r own B S (sym b ∙ right) (ap (λ l. length l) (sym q.0) ∙ sized l q.2 q.3 ∙ sym own_is) in
            (q.1, u.1, v.1, q.4 ∙ ap (λ (ps : List (List ℕ)). map (λ p. a_copy p) ps) (node_one (shape_of_form f) own q.2 ps (subst (λ l. IsNode (shape_of_form f) l q.2) u.0 q.3) n))))
            (λ d. (own, own, c.1 own own Equal (map (λ p. a_copy p) ps) (refl, refl, inr (full, f, ps, there, n, refl)), left, right))
