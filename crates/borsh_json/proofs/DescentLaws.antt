-- Neighbours of a set or a map that don't ascend.
use Rattle.std.proofs.{Common.{◌≡◌, ◌⊎◌, inl, inr, ℕ, suc, zero, ◌+◌, ◌-◌, ◌*◌, ◌<◌, ◌≤◌, ◌^◌, List, [], ◌∷◌, ◌++◌, length, map, take, drop, Bool, Option, Some, refl, sym, ◌∙◌, ap, subst, arith, append_assoc, append-nil, length-append, length-drop, length-take-le, take-append-drop, ℤ, pos, All, Decides, true, false, nat_cmp, int_cmp, Ordering, Less, Equal, Greater}, Math.Nat.{suc-mul, zero-mul, mul-le-mul_left, mul-le-mul_right}}
use Rattle.std.specs.Cmp.Lexicographic.{slice_cmp}
use Rattle.borsh_walks.specs.Container.{tag}
use Rattle.borsh_values.proofs.MemberLaws.{copies_of, same_front}
use Rattle.borsh_json.specs.{Descents.{PrimitivesDescend, HasKeys, HasDescent}, Forms.{Form, primitive, shape_of_form, shapes}, Table.{InRange}, Ordered.{Fronts, IsNode, a_copy, Order, single, numbers, text, array, list, parts, other, HasOrder, Compared, a_value, FrontsOf, IsAtLeast, all_equal, first_above, first_equal}, declared.order.Ordered.{Ordered}, Orders.{ArePrimitives, DecidesFall}}
use Rattle.borsh_plan.specs.declared.named.Named.{Named}
use Rattle.borsh_json.proofs.{FormKinds.{shaped}, FoundLaws.{full_primitive}, OnlyLaws.{copies_only}, OrderLaws.{clash, front}, OrderNumbers.{long_tag}}

pub all_left : (P : ℕ → Type 0) (xs ys : List ℕ) → All P (xs ++ ys) → All P xs
all_left P [] ys h i d l = absurd (omega (arith, l))
all_left P (x ∷ xs) ys h zero d l = h 0 d (omega arith)
all_left P (x ∷ xs) ys h (suc i) d l = all_left P xs ys (λ j e m. h (suc j) e (omega (arith, m))) i d (omega (arith, l))

pub all_right : (P : ℕ → Type 0) (xs ys : List ℕ) → All P (xs ++ ys) → All P ys
all_right P [] ys h = h
all_right P (x ∷ xs) ys h = all_right P xs ys (λ j e m. h (suc j) e (omega (arith, m)))

-- elements of so many bytes have room for two behind p
two_more : (p c n r : ℕ) → p * suc n + (suc n + (suc n + r)) ≡ c * suc n → suc (suc p) ≤ c
two_more zero zero n r e = absurd (let z = zero-mul (suc n) in omega (arith, e, z))
two_more zero (suc zero) n r e = absurd (let z = zero-mul (suc n) in let k = suc-mul 0 (suc n) in omega (arith, e, z, k))
two_more zero (suc (suc c)) n r e = omega arith
two_more (suc p) zero n r e = absurd (let z = zero-mul (suc n) in omega (arith, e, z))
two_more (suc p) (suc c) n r e =
    let j = suc-mul p (suc n) in
    let k = suc-mul c (suc n) in
    let l = two_more p c n r (omega (arith, e, j, k)) in
    omega (arith, l)

module _ (F : List ℕ → Option Form) where
  -- an order that isn't less, before nothing
  at_least : (x : List ℕ) (l r bs cs : List ℕ) (o : Ordering) → FrontsOf F (a_value x) l r o [] → (o ≡ Less → ⊥) → IsAtLeast F (a_value x ∷ []) (l ++ bs) (r ++ cs)
  at_least x l r bs cs Less f n = absurd (n refl)
  at_least x l r bs cs Equal f n = first_equal l r [] f all_equal
  at_least x l r bs cs Greater f n = first_above l r bs cs [] f

  -- numbers compare as such
  pub numbers_at_least : (k : List ℕ) (n : ℕ) (signed : Bool) (y z : ℤ) (bs cs : List ℕ) → HasOrder F k (numbers n signed) → InRange n signed y → InRange n signed z → (int_cmp y z ≡ Less → ⊥) → IsAtLeast F (a_value k ∷ []) (tag n y ++ bs) (tag n z ++ cs)
  numbers_at_least k n signed y z bs cs h i j = at_least k (tag n y) (tag n z) bs cs (int_cmp y z) (numbers n signed, h, (y, z, i, j, refl, refl, refl, refl))

  -- and texts
  pub texts_at_least : (k s t bs cs : List ℕ) → HasOrder F k text → length s < 256 ^ 4 → length t < 256 ^ 4 → (slice_cmp nat_cmp s t ≡ Less → ⊥) → IsAtLeast F (a_value k ∷ []) ((tag 4 (pos (length s)) ++ s) ++ bs) ((tag 4 (pos (length t)) ++ t) ++ cs)
  texts_at_least k s t bs cs h i j = at_least k (tag 4 (pos (length s)) ++ s) (tag 4 (pos (length t)) ++ t) bs cs (slice_cmp nat_cmp s t) (text, h, (s, t, i, j, refl, refl, refl, refl))

  -- ---- primitives
  module _ (e : List ℕ) (n : ℕ) (p : F e ≡ Some (primitive (suc n))) where
    -- they are ordered as numbers, or their order isn't told
    pub packed_order : (o : Order) → HasOrder F e o → ((signed : Bool) × (o ≡ numbers (suc n) signed)) ⊎ (o ≡ other)
    packed_order o (inl z) = absurd (full_primitive F p z.0)
    packed_order single (inr (z, inl b)) = absurd b
    packed_order (numbers m signed) (inr (z, inl b)) =
        let g : Some (primitive m) ≡ Some (primitive (suc n)) = sym b.0 ∙ p in
        let q : m ≡ suc n = cc in
        inl (signed, ap (λ m. numbers m signed) q)
    packed_order text (inr (z, inl b)) = absurd (clash (F e) p b.1 (λ q. cc))
    packed_order (array m d) (inr (z, inl b)) = absurd (clash (F e) p b.0 (λ q. cc))
    packed_order (list w d) (inr (z, inl (inl b))) = absurd (clash (F e) p b.1.0 (λ q. cc))
    packed_order (list w d) (inr (z, inl (inr b))) = absurd (clash (F e) p b.1.1 (λ q. cc))
    packed_order (parts ps) (inr (z, inl b)) = absurd (clash (F e) p b.0 (λ q. cc))
    packed_order other (inr (z, inl b)) = absurd b
    packed_order o (inr (z, inr b)) = inr b.0

    -- so many bytes, and nothing behind them
    packed_fronts : (l r : List ℕ) (o : Ordering) (us : List Compared) → FrontsOf F (a_value e) l r o us → (length l ≡ suc n) × (length r ≡ suc n) × (us ≡ [])
    packed_fronts l r o us f = elim (packed_order f.0 f.1) [
      | inl s ↦ (let q = subst (λ (q : Order). Fronts F e q l r o us) s.1 f.2 in
          (ap (λ l. length l) q.4 ∙ long_tag (suc n) q.0, ap (λ l. length l) q.5 ∙ long_tag (suc n) q.1, q.7))
      | inr s ↦ (let q = subst (λ (q : Order). Fronts F e q l r o us) s f.2 in
          elim q.2 [
            | inl z ↦ absurd (full_primitive F p z.0)
            | inr z ↦ (let g : Some z.1 ≡ Some (primitive (suc n)) = sym z.3 ∙ p in
                let k : z.1 ≡ primitive (suc n) = cc in
                let t = subst (λ (f : Form). IsNode (shape_of_form f) l z.2) k z.4 in
                (t.0, ap (λ l. length l) (sym q.0) ∙ t.0, z.5 ∙ ap (λ (ps : List (List ℕ)). map (λ p. a_copy p) ps) t.1))
          ])
    ]

    -- whatever is behind them
    pub packed_at_least : (first second A B : List ℕ) → length first ≡ suc n → length second ≡ suc n → IsAtLeast F (a_value e ∷ []) (first ++ A) (second ++ B) → (C D : List ℕ) → IsAtLeast F (a_value e ∷ []) (first ++ C) (second ++ D)
    packed_at_least first second A B i j h C D =
        let f = front F h in
        let q = packed_fronts f.l f.r f.o f.us f.fronts in
        let u = same_front first f.l A f.A f.left (i ∙ sym q.0) in
        let v = same_front second f.r B f.B f.right (j ∙ sym q.1) in
        let g : FrontsOf F (a_value e) first second f.o [] = subst (λ (us : List Compared). FrontsOf F (a_value e) first second f.o us) q.2 (subst (λ r. FrontsOf F (a_value e) first r f.o f.us) (sym v.0) (subst (λ l. FrontsOf F (a_value e) l f.r f.o f.us) (sym u.0) f.fronts)) in
        at_least e first second C D f.o g (λ z. elim f.behind [ inl b ↦ (let k : Greater ≡ Less = sym b ∙ z in cc) | inr b ↦ (let k : Equal ≡ Less = sym b.0 ∙ z in cc) ])

    -- before nothing
    pub packed_alone : (first second A B : List ℕ) → length first ≡ suc n → length second ≡ suc n → IsAtLeast F (a_value e ∷ []) (first ++ A) (second ++ B) → IsAtLeast F (a_value e ∷ []) first second
    packed_alone first second A B i j h = subst (λ r. IsAtLeast F (a_value e ∷ []) first r) (append-nil second) (subst (λ l. IsAtLeast F (a_value e ∷ []) l (second ++ [])) (append-nil first) (packed_at_least first second A B i j h [] []))

    pub packed_with : (first second : List ℕ) → length first ≡ suc n → length second ≡ suc n → IsAtLeast F (a_value e ∷ []) first second → (C D : List ℕ) → IsAtLeast F (a_value e ∷ []) (first ++ C) (second ++ D)
    packed_with first second i j h = packed_at_least first second [] [] i j (subst (λ r. IsAtLeast F (a_value e ∷ []) (first ++ []) r) (sym (append-nil second)) (subst (λ l. IsAtLeast F (a_value e ∷ []) l second) (sym (append-nil first)) h))

    -- a set of primitives whose own bytes are its elements, too
    pub primitives_descend : (x k own es rest : List ℕ) (c i : ℕ) → HasKeys F x e k → own ≡ tag 4 (pos c) ++ es → length es ≡ c * suc n → All (λ b. b < 256) es → c ≤ 4294967295 → PrimitivesDescend F e (suc n) es i → HasDescent F x (own ++ rest) (i - 1)
    primitives_descend x k own es rest c i (l, inr m) w len small fits d = absurd (clash (F e) p m.1 (λ q. cc))
    primitives_descend x k own es rest c i (l, inl s) w len small fits d =
        let first = d.first in
        let second = d.second in
        let P : ℕ → Type 0 = λ b. b < 256 in
        let all = subst (λ l. All P l) d.bytes_are small in
        let behind = all_right P d.before (first ++ (second ++ d.after)) all in
        let a = ap (λ l. length l) d.bytes_are ∙ length-append d.before (first ++ (second ++ d.after)) in
        let b = length-append first (second ++ d.after) in
        let g = length-append second d.after in
        let u = d.first_is in
        let v = d.second_is in
        let t = d.passed in
        let one_times : suc n ≡ 1 * suc n = (let j = suc-mul 0 (suc n) in let z = zero-mul (suc n) in omega (arith, j, z)) in
        record {
          e = e;
          k = k;
          count = c;
          middle = d.before;
          first = first;
          after = second ++ (d.after ++ rest);
          keys = (l, inl s);
          bytes_are = ap (λ l. l ++ rest) (w ∙ ap (λ l. tag 4 (pos c) ++ l) d.bytes_are) ∙ append_assoc (tag 4 (pos c)) (d.before ++ (first ++ (second ++ d.after))) rest
              ∙ ap (λ l. tag 4 (pos c) ++ l) (append_assoc d.before (first ++ (second ++ d.after)) rest ∙ ap (λ l. d.before ++ l) (append_assoc first (second ++ d.after) rest ∙ ap (λ l. first ++ l) (append_assoc second d.after rest)));
          fits = fits;
          more = two_more (i - 1) c n (length d.after) (omega (arith, a, b, g, u, v, t, len));
          elements = copies_only F n (i - 1) p (copies_of (shapes F) n (i - 1) d.before (shaped (F e) p) d.passed (all_left P d.before (first ++ (second ++ d.after)) all));
          element = copies_only F n 1 p (copies_of (shapes F) n 1 first (shaped (F e) p) (u ∙ one_times) (all_left P first (second ++ d.after) behind));
          falls = subst (λ k. IsAtLeast F (a_value k ∷ []) (first ++ (second ++ (d.after ++ rest))) (second ++ (d.after ++ rest))) (sym s.1) (packed_with first second u v d.falls (second ++ (d.after ++ rest)) (d.after ++ rest));
        }

-- ---- primitives in a row
two_left : (m n l : ℕ) → 0 < n → l ≡ m * n → n < l → n + n ≤ l
two_left zero n l h e g = absurd (let z = zero-mul n in omega (arith, e, z, g))
two_left (suc zero) n l h e g = absurd (let z = zero-mul n in let k = suc-mul 0 n in omega (arith, e, z, k, g))
two_left (suc (suc m)) n l h e g = let j = suc-mul (suc m) n in let k = suc-mul m n in omega (arith, e, j, k)

-- a front of as many bytes as there are
pub front_of : (n : ℕ) (l : List ℕ) → n ≤ length l → (l ≡ take n l ++ drop n l) × (length (take n l) ≡ n)
front_of n l h = (sym (take-append-drop n l), length-take-le n l h)

-- one element was passed
pub one_passed : (bytes rest after before : List ℕ) (n m index : ℕ) → 0 < n → 1 ≤ index → bytes ≡ before ++ rest → length before ≡ (index - 1) * n → length rest ≡ m * n → n < length rest → after ≡ drop n rest → (more : List ℕ) × (k : ℕ) × (bytes ≡ more ++ after) × (length more ≡ (index + 1 - 1) * n) × (length after ≡ k * n)
one_passed bytes rest after before n zero index h g e b r l a = absurd (let z = zero-mul n in omega (arith, r, z, l))
one_passed bytes rest after before n (suc m) index h g e b r l a =
    let f = front_of n rest (omega (arith, l)) in
    let j = length-append before (take n rest) in
    let s = suc-mul (index - 1) n in
    let t = suc-mul m n in
    let d = length-drop n rest in
    let q : suc (index - 1) ≡ index + 1 - 1 = omega (arith, g) in
    let x : length (before ++ take n rest) ≡ suc (index - 1) * n = (let p = f.1 in omega (arith, j, p, b, s)) in
    (before ++ take n rest, m, e ∙ ap (λ r. before ++ r) f.0 ∙ sym (append_assoc before (take n rest) (drop n rest)) ∙ ap (λ a. (before ++ take n rest) ++ a) (sym a), x ∙ ap (λ i. i * n) q, ap (λ a. length a) a ∙ (let p = t in omega (arith, d, r, p)))

-- a front and what is behind it
pub cut_lengths : (n : ℕ) (rest element after : List ℕ) → n ≤ length rest → ((xs bs : List ℕ) → rest ≡ xs ++ bs → length xs ≡ n → (element ≡ xs) × (after ≡ bs)) → (rest ≡ element ++ after) × (length element ≡ n)
cut_lengths n rest element after h cut =
    let f = front_of n rest h in
    let s = cut (take n rest) (drop n rest) f.0 f.1 in
    (f.0 ∙ ap (λ l. l ++ drop n rest) (sym s.0) ∙ ap (λ l. element ++ l) (sym s.1), ap (λ l. length l) s.0 ∙ f.1)

-- two primitives that come next
pub two_next : (rest element after next last : List ℕ) (n m : ℕ) → 0 < n → length rest ≡ m * n → n < length rest → ((xs bs : List ℕ) → rest ≡ xs ++ bs → length xs ≡ n → (element ≡ xs) × (after ≡ bs)) → ((xs bs : List ℕ) → after ≡ xs ++ bs → length xs ≡ n → (next ≡ xs) × (last ≡ bs)) → (rest ≡ element ++ (next ++ last)) × (length element ≡ n) × (length next ≡ n)
two_next rest element after next last n m h r l cut again =
    let two = two_left m n (length rest) h r l in
    let a = cut_lengths n rest element after (omega (arith, l)) cut in
    let k = ap (λ l. length l) a.0 ∙ length-append element after in
    let w = a.1 in
    let b = cut_lengths n after next last (omega (arith, k, w, two)) again in
    (a.0 ∙ ap (λ l. element ++ l) b.0, a.1, b.1)

-- of which the second isn't above the first
pub falls_at : (F : List ℕ → Option Form) (e bytes before element next last : List ℕ) (n index : ℕ) → bytes ≡ before ++ (element ++ (next ++ last)) → length before ≡ (index - 1) * n → length element ≡ n → length next ≡ n → IsAtLeast F (a_value e ∷ []) element next → 0 < index → PrimitivesDescend F e n bytes index
falls_at F e bytes before element next last n index b p l m f some = record {
  before = before;
  first = element;
  second = next;
  after = last;
  some = some;
  passed = p;
  bytes_are = b;
  first_is = l;
  second_is = m;
  falls = f;
}

module _ (F : List ℕ → Option Form) (e : List ℕ) where
  -- the bytes have room for two elements that don't ascend
  fall_room : (bytes : List ℕ) (n i : ℕ) → PrimitivesDescend F e n bytes i → (i - 1) * n + (n + n) ≤ length bytes
  fall_room bytes n i d =
      let a = ap (λ l. length l) d.bytes_are ∙ length-append d.before (d.first ++ (d.second ++ d.after)) in
      let b = length-append d.first (d.second ++ d.after) in
      let g = length-append d.second d.after in
      let p = d.first_is in
      let q = d.second_is in
      let t = d.passed in
      omega (arith, a, b, g, p, q, t)

  -- before the first element there is none to fall below
  pub none_first : (bytes : List ℕ) (n i : ℕ) → i < 1 → PrimitivesDescend F e n bytes i → ⊥
  none_first bytes n i l d = let s = d.some in omega (arith, l, s)

  -- an element that is above the one before it doesn't fall
  pub none_here : (bytes before element next last : List ℕ) (n index i : ℕ) → index ≤ i → i < index + 1 → bytes ≡ before ++ (element ++ (next ++ last)) → length before ≡ (index - 1) * n → length element ≡ n → length next ≡ n → (IsAtLeast F (a_value e ∷ []) element next → ⊥) → PrimitivesDescend F e n bytes i → ⊥
  none_here bytes before element next last n index i g l b p u v rises d =
      let q : index ≡ i = omega (arith, g, l) in
      let s = same_front before d.before (element ++ (next ++ last)) (d.first ++ (d.second ++ d.after)) (sym b ∙ d.bytes_are) (p ∙ ap (λ i. (i - 1) * n) q ∙ sym d.passed) in
      let t = same_front element d.first (next ++ last) (d.second ++ d.after) s.1 (u ∙ sym d.first_is) in
      let w = same_front next d.second last d.after t.1 (v ∙ sym d.second_is) in
      rises (subst (λ r. IsAtLeast F (a_value e ∷ []) element r) (sym w.0) (subst (λ l. IsAtLeast F (a_value e ∷ []) l d.second) (sym t.0) d.falls))

  -- where at most one element is left none falls
  pub none_left : (bytes rest before : List ℕ) (n index i : ℕ) → 0 < n → index ≤ i → bytes ≡ before ++ rest → length before ≡ (index - 1) * n → length rest ≤ n → PrimitivesDescend F e n bytes i → ⊥
  none_left bytes rest before n index i h g b l k d =
      let r = fall_room bytes n i d in
      let a = ap (λ l. length l) b ∙ length-append before rest in
      let m : (index - 1) * n ≤ (i - 1) * n = mul-le-mul_right n (omega (arith, g)) in
      omega (arith, r, a, l, k, h, m)

  -- nor does one whose index isn't less than the number of bytes
  pub none_past : (bytes : List ℕ) (n index i : ℕ) → 0 < n → index ≤ i → length bytes ≤ index → PrimitivesDescend F e n bytes i → ⊥
  none_past bytes n index i h g l d =
      let r = fall_room bytes n i d in
      let m : (i - 1) * 1 ≤ (i - 1) * n = mul-le-mul_left (i - 1) (omega (arith, h)) in
      omega (arith, r, l, g, h, m)

-- ---- as two neighbours are looked at
module _ (F : List ℕ → Option Form) (ns : List Named) (e : List ℕ) (order : Ordered) (bytes rest element after next last before : List ℕ) (n m index : ℕ) (falls : Bool) (a : ArePrimitives F ns e order n bytes)
    (joins : bytes ≡ before ++ rest) (passed : length before ≡ (index - 1) * n) (left : length rest ≡ m * n) (more : n < length rest)
    (cut : (xs bs : List ℕ) → rest ≡ xs ++ bs → length xs ≡ n → (element ≡ xs) × (after ≡ bs)) (again : (xs bs : List ℕ) → after ≡ xs ++ bs → length xs ≡ n → (next ≡ xs) × (last ≡ bs)) (tells : DecidesFall order (length element) element next falls) where
  two : (rest ≡ element ++ (next ++ last)) × (length element ≡ n) × (length next ≡ n)
  two = two_next rest element after next last n m a.2 left more cut again

  decided : Decides falls (IsAtLeast F (a_value e ∷ []) element next)
  decided =
      let t = two in
      let P : ℕ → Type 0 = λ b. b < 256 in
      let all = all_right P before (element ++ (next ++ last)) (subst (λ l. All P l) (joins ∙ ap (λ l. before ++ l) t.0) a.4) in
      tells F ns e a.0 (a.1 ∙ ap (λ n. Some (primitive n)) (sym t.1)) (subst (λ n. 0 < n) (sym t.1) a.2) refl (t.2 ∙ sym t.1) (all_left P element (next ++ last) all) (all_left P next last (all_right P element (next ++ last) all))

  pub falls_next : falls ≡ true → 1 ≤ index → PrimitivesDescend F e n bytes index
  falls_next f g = let t = two in falls_at F e bytes before element next last n index (joins ∙ ap (λ l. before ++ l) t.0) passed t.1 t.2 (decided.0 f) (omega (arith, g))

  pub none_next : (i : ℕ) → falls ≡ false → index ≤ i → i < index + 1 → PrimitivesDescend F e n bytes i → ⊥
  none_next i f g l d = let t = two in none_here F e bytes before element next last n index i g l (joins ∙ ap (λ l. before ++ l) t.0) passed t.1 t.2 (λ h. let q : true ≡ false = sym (decided.1 h) ∙ f in cc) d
