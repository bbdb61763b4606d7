-- The laws of elements in a row, and behind a count.
use Rattle.std.proofs.Common.{◌≡◌, ℕ, suc, ◌+◌, Bool, true, false, cond, nat_eq, List, [], ◌∷◌, ◌++◌, length, Option, Some, None, ◌⊎◌, refl, sym, ◌∙◌, ap, subst, inl, inr, append-nil, append_assoc, length-append, ◌≤◌, arith, true≢false, eqb-true, eq-eqb}
use Rattle.std.specs.List.{AllZip}
use Rattle.borsh_codec.specs.Codec.{Codec, IsDecodable, Lawful}
use Rattle.borsh_codec.specs.Shapes.{is_zero, unsigned_encoding, unsigned, append_encodings, concat_encodings, DecodesEach, ArrayDecodes, array, allocated_array, length_prefixed, list}
use Rattle.borsh_codec.proofs.Laws.Lists.{same_front, decodable_prefix_free, nil_parts, or_true, or_false, joined_some, joined_is}
use Rattle.borsh_codec.proofs.Laws.Exact.{zero_of, positive_of, refused_if-lawful}
use Rattle.borsh_codec.proofs.Laws.Numbers.{unsigned-lawful, number_apart, length-number}

module _ {A : Type 0} {c : Codec A} (l : Lawful A c) where
  -- as many elements, read from the fronts of one list: both fronts are the same, and so are the elements
  pub in_order_fronts : (m : Bool) (x y u v : List ℕ) (xs ys : List A) → length xs ≡ length ys → DecodesEach (c.decodes m) x xs → DecodesEach (c.decodes m) u ys
      → x ++ y ≡ u ++ v → (x ≡ u) × (y ≡ v) × AllZip c.equivalent xs ys
  in_order_fronts m x y u v [] [] n p q e = (p ∙ sym q, (let f = ap (λ z. z ++ y) p in let g = ap (λ z. z ++ v) q in cc), tt)
  in_order_fronts m x y u v [] (b ∷ ys) n p q e = absurd (omega arith)
  in_order_fronts m x y u v (a ∷ xs) [] n p q e = absurd (omega arith)
  in_order_fronts m x y u v (a ∷ xs) (b ∷ ys) n p q e =
      let e' : p.first ++ (p.second ++ y) ≡ q.first ++ (q.second ++ v) =
      sym (append_assoc p.first p.second y) ∙ ap (λ z. z ++ y) (sym p.whole) ∙ e ∙ ap (λ z. z ++ v) q.whole ∙ append_assoc q.first q.second v in
      let f = same_front (IsDecodable c m) (decodable_prefix_free l m) p.first (p.second ++ y) q.first (q.second ++ v) (a, p.left) (b, q.left) e' in
      let g = in_order_fronts m p.second y q.second v xs ys (omega arith) p.right q.right f.1 in
      let w : x ≡ u = cc (p.whole, q.whole, f.0, g.0) in
      (w, g.1, (l.unambiguous m q.first a b (subst (λ z. c.decodes m z a) f.0 p.left) q.left, g.2))

  pub in_order_written : (m : Bool) (xs : List A) (x : List ℕ) → concat_encodings c.encoding xs ≡ Some x → DecodesEach (c.decodes m) x xs
  in_order_written m [] x e = cc
  in_order_written m (a ∷ xs) x e =
      let p = joined_some (c.encoding a) (concat_encodings c.encoding xs) x e in
      record { first = p.first; second = p.second; whole = p.whole; left = l.round_trip m a p.first p.left; right = in_order_written m xs p.second p.right }

  pub in_order_encoded : (m : Bool) (x : List ℕ) (xs : List A) → DecodesEach (c.decodes m) x xs → (y : List ℕ) × (concat_encodings c.encoding xs ≡ Some y)
  in_order_encoded m x [] p = ([], refl)
  in_order_encoded m x (a ∷ xs) p =
      let f = l.re_encodable m p.first a p.left in
      let g = in_order_encoded m p.second xs p.right in
      (f.0 ++ g.0, joined_is (c.encoding a) (concat_encodings c.encoding xs) f.0 g.0 f.1 g.1)

  pub in_order_canonical : (x : List ℕ) (xs : List A) → c.is_canonical ≡ true → DecodesEach (c.decodes true) x xs → concat_encodings c.encoding xs ≡ Some x
  in_order_canonical x [] e p = ap Some (sym p)
  in_order_canonical x (a ∷ xs) e p =
      joined_is (c.encoding a) (concat_encodings c.encoding xs) p.first p.second (l.canonical p.first a e p.left) (in_order_canonical p.second xs e p.right) ∙ ap Some (sym p.whole)

  pub all_joined-same : (xs ys : List A) → AllZip c.equivalent xs ys → concat_encodings c.encoding xs ≡ concat_encodings c.encoding ys
  all_joined-same [] [] s = refl
  all_joined-same [] (b ∷ ys) s = absurd s
  all_joined-same (a ∷ xs) [] s = absurd s
  all_joined-same (a ∷ xs) (b ∷ ys) s = ap (λ o. append_encodings o (concat_encodings c.encoding xs)) (l.equivalent_encoding a b s.0) ∙ ap (append_encodings (c.encoding b)) (all_joined-same xs ys s.1)

  pub in_order_empty : (m : Bool) (x : List ℕ) (xs : List A) → c.is_zero_width ≡ true → DecodesEach (c.decodes m) x xs → x ≡ []
  in_order_empty m x [] e p = p
  in_order_empty m x (a ∷ xs) e p =
      let f = l.empty m p.first a e p.left in
      let g = in_order_empty m p.second xs e p.right in
      p.whole ∙ ap (λ z. z ++ p.second) f ∙ g

  filled : c.is_zero_width ≡ false → (m : Bool) (x : List ℕ) (a : A) → c.decodes m x a → 1 ≤ length x
  filled e m [] a p = absurd (l.non_empty m a e p)
  filled e m (b ∷ x) a p = omega arith

  -- elements whose encodings aren't empty are read from at least as many bytes
  pub in_order_long : c.is_zero_width ≡ false → (m : Bool) (x : List ℕ) (xs : List A) → DecodesEach (c.decodes m) x xs → length xs ≤ length x
  in_order_long e m x [] p = omega arith
  in_order_long e m x (a ∷ xs) p =
      omega (arith, filled e m p.first a p.left, in_order_long e m p.second xs p.right, ap length p.whole, length-append p.first p.second)

pub length-same : {A : Type 0} (P : A → A → Type 0) (xs ys : List A) → AllZip P xs ys → length xs ≡ length ys
length-same P [] [] s = refl
length-same P [] (b ∷ ys) s = absurd s
length-same P (a ∷ xs) [] s = absurd s
length-same P (a ∷ xs) (b ∷ ys) s = ap suc (length-same P xs ys s.1)

-- lists of equal elements are equal
pub all_equal : {A : Type 0} (xs ys : List A) → AllZip (λ a b. a ≡ b) xs ys → xs ≡ ys
all_equal [] [] s = refl
all_equal [] (b ∷ ys) s = absurd s
all_equal (a ∷ xs) [] s = absurd s
all_equal (a ∷ xs) (b ∷ ys) s = let e = s.0 in let f = all_equal xs ys s.1 in cc

-- ---- a row

pub record Sized (A : Type 0) (n : ℕ) (c : Codec A) (xs : List A) (x : List ℕ) : Type 0 where
  pub long : length xs ≡ n
  pub is : concat_encodings c.encoding xs ≡ Some x

module _ {A : Type 0} (n : ℕ) {c : Codec A} (l : Lawful A c) where
  sized : (b : Bool) (xs : List A) (x : List ℕ) → b ≡ nat_eq (length xs) n → cond b (concat_encodings c.encoding xs) None ≡ Some x → Sized A n c xs x
  sized true xs x f e = record { long = eqb-true (length xs) n (sym f); is = e }
  sized false xs x f e = absurd (cc)

  round_trip : (m : Bool) (xs : List A) (x : List ℕ) → (array n c).encoding xs ≡ Some x → ArrayDecodes A n c m x xs
  round_trip m xs x e = let p = sized (nat_eq (length xs) n) xs x refl e in record { long = p.long; parts = in_order_written l m xs x p.is }

  one : (m : Bool) (x : List ℕ) (xs ys : List A) → ArrayDecodes A n c m x xs → ArrayDecodes A n c m x ys → AllZip c.equivalent xs ys
  one m x xs ys p q = (in_order_fronts l m x [] x [] xs ys (p.long ∙ sym q.long) p.parts q.parts refl).2

  empty : (m : Bool) (x : List ℕ) (xs : List A) → ArrayDecodes A n c m x xs → (is_zero n ≡ true) ⊎ (c.is_zero_width ≡ true) → x ≡ []
  empty m x [] p (inl e) = p.parts
  empty m x (a ∷ xs) p (inl e) = absurd (let z = zero_of n e in let k = p.long in omega arith)
  empty m x xs p (inr e) = in_order_empty l m x xs e p.parts

  full : (m : Bool) (xs : List A) → is_zero n ≡ false → c.is_zero_width ≡ false → ArrayDecodes A n c m [] xs → ⊥
  full m [] f e p = positive_of n f (sym p.long)
  full m (a ∷ xs) f e p =
      let q = p.parts in
      let k = nil_parts q.first q.second q.whole in
      l.non_empty m a e (subst (λ z. c.decodes m z a) k.0 q.left)

  pub row_is : (xs : List A) {o : Option (List ℕ)} → length xs ≡ n → concat_encodings c.encoding xs ≡ o → (array n c).encoding xs ≡ o
  row_is xs f e = ap (λ b. cond b (concat_encodings c.encoding xs) None) (eq-eqb (length xs) n f) ∙ e

  pub array-lawful : Lawful (List A) (array n c)
  array-lawful = record {
    equivalent_encoding = λ xs ys s. ap (λ k. cond (nat_eq k n) (concat_encodings c.encoding xs) None) (length-same c.equivalent xs ys s) ∙ ap (λ o. cond (nat_eq (length ys) n) o None) (all_joined-same l xs ys s);
    prefix_free = λ m x z xs ys p q. (in_order_fronts l m x z (x ++ z) [] xs ys (p.long ∙ sym q.long) p.parts q.parts (sym (append-nil (x ++ z)))).1;
    empty = λ m x xs e p. empty m x xs p (or_true (is_zero n) c.is_zero_width e);
    non_empty = λ m xs e p. (let f = or_false (is_zero n) c.is_zero_width e in full m xs f.0 f.1 p);
    round_trip = round_trip;
    unambiguous = one;
    re_encodable = λ m x xs p. (let f = in_order_encoded l m x xs p.parts in (f.0, row_is xs p.long f.1));
    canonical = λ x xs e p. row_is xs p.long (in_order_canonical l x xs e p.parts);
    refused = λ v e. absurd (true≢false (sym e));
  }

  pub allocated_array-lawful : Lawful (List A) (allocated_array n c)
  allocated_array-lawful = let r = array-lawful in record {
    equivalent_encoding = r.equivalent_encoding;
    prefix_free = r.prefix_free;
    empty = r.empty;
    non_empty = r.non_empty;
    round_trip = r.round_trip;
    unambiguous = r.unambiguous;
    re_encodable = r.re_encodable;
    canonical = r.canonical;
    refused = r.refused;
  }

-- ---- elements behind a count

module _ {A : Type 0} {c : Codec A} (l : Lawful A c) where
  -- two counted lists at the fronts of one list: what is left is the same, and so are the elements
  pub counted_fronts : (m : Bool) (x y u v : List ℕ) (xs ys : List A) → (length_prefixed c).decodes m x xs → (length_prefixed c).decodes m u ys → x ++ y ≡ u ++ v → (y ≡ v) × AllZip c.equivalent xs ys
  counted_fronts m x y u v xs ys p q e =
      let e' : p.first ++ (p.second ++ y) ≡ q.first ++ (q.second ++ v) =
      sym (append_assoc p.first p.second y) ∙ ap (λ z. z ++ y) (sym p.whole) ∙ e ∙ ap (λ z. z ++ v) q.whole ∙ append_assoc q.first q.second v in
      let f = same_front (IsDecodable (unsigned 4) m) (decodable_prefix_free (unsigned-lawful 4) m) p.first (p.second ++ y) q.first (q.second ++ v) (length xs, p.left) (length ys, q.left) e' in
      let n = number_apart 4 (length xs) (length ys) q.first (p.left ∙ ap Some f.0) q.left in
      let g = in_order_fronts l m p.second y q.second v xs ys n p.right q.right f.1 in
      (g.1, g.2)

  counted_one : (m : Bool) (x : List ℕ) (xs ys : List A) → (length_prefixed c).decodes m x xs → (length_prefixed c).decodes m x ys → AllZip c.equivalent xs ys
  counted_one m x xs ys p q = (counted_fronts m x [] x [] xs ys p q refl).1

  pub length_prefixed-lawful : Lawful (List A) (length_prefixed c)
  length_prefixed-lawful = record {
    equivalent_encoding = λ xs ys s. ap (λ n. append_encodings (unsigned_encoding 4 n) (concat_encodings c.encoding xs)) (length-same c.equivalent xs ys s) ∙ ap (append_encodings (unsigned_encoding 4 (length ys))) (all_joined-same l xs ys s);
    prefix_free = λ m x z xs ys p q. (counted_fronts m x z (x ++ z) [] xs ys p q (sym (append-nil (x ++ z)))).0;
    empty = λ m x xs e p. absurd (true≢false (sym e));
    non_empty = λ m xs e p. (let n = nil_parts p.first p.second p.whole in
        let k : length p.first ≡ 4 = length-number 4 (length xs) p.first p.left in
        let z : length p.first ≡ 0 = ap length n.0 in
        omega arith);
    round_trip = λ m xs x e. (let p = joined_some (unsigned_encoding 4 (length xs)) (concat_encodings c.encoding xs) x e in
        record { first = p.first; second = p.second; whole = p.whole; left = p.left; right = in_order_written l m xs p.second p.right });
    unambiguous = counted_one;
    re_encodable = λ m x xs p. (let f = in_order_encoded l m p.second xs p.right in
        (p.first ++ f.0, joined_is (unsigned_encoding 4 (length xs)) (concat_encodings c.encoding xs) p.first f.0 p.left f.1));
    canonical = λ x xs e p. joined_is (unsigned_encoding 4 (length xs)) (concat_encodings c.encoding xs) p.first p.second p.left (in_order_canonical l p.second xs e p.right) ∙ ap Some (sym p.whole);
    refused = λ v e. absurd (true≢false (sym e));
  }

  pub list-lawful : Lawful (List A) (list c)
  list-lawful = refused_if-lawful c.is_zero_width length_prefixed-lawful

  -- no list is read from fewer bytes than its count and one for each element
  pub elements_long : (m : Bool) (x : List ℕ) (xs : List A) → (list c).decodes m x xs → 4 + length xs ≤ length x
  elements_long m x xs p =
      let r = p.decodes in
      omega (arith, length-number 4 (length xs) r.first r.left, in_order_long l p.allowed m r.second xs r.right, ap length r.whole, length-append r.first r.second)
