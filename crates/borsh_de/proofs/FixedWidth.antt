-- Types of which every so many bytes are an encoding.
use Rattle.std.proofs.Common.{◌≡◌, ℕ, zero, suc, ◌+◌, ◌*◌, ◌-◌, ◌^◌, ◌<◌, ◌≤◌, Bool, true, false, List, [], ◌∷◌, ◌++◌, length, get_or, take, drop, replicate, Option, Some, inl, inr, refl, sym, ◌∙◌, ap, subst, append_assoc, arith, length-append, true≢false}
use Rattle.std.proofs.lemmas.List.{take-append-drop, length-take-le, length-drop, length-replicate}
use Rattle.std.proofs.lemmas.List.Elements.{All-append}
use Rattle.std.proofs.Math.Nat.{mul-le-mul_right, mul_comm}
use Rattle.std.specs.Int.{Width, byte_worth, sum_through}
use mir.Val.{bits, hbits}
use Rattle.borsh_io.specs.declared.error.ErrorKind.{ErrorKind}
use Rattle.borsh_io.specs.Stream.{ReaderState}
use Rattle.borsh_codec.specs.Codec.{Codec, IsDecodable}
use Rattle.borsh_codec.specs.Shapes.{contramap, unsigned, signed, sign_bound, pair, DecodesEach, array, allocated_array}
use Rattle.borsh_codec.specs.Reading.{TakesPrefix, NoPrefix, ReadFails, NotDecoded}
use Rattle.borsh_codec.proofs.Laws.Lists.{cuts, nil_of_length}
use Rattle.borsh_codec.proofs.Laws.Numbers.{number_some, length-number, length-signed}
use Rattle.borsh_codec.proofs.NumberBytes.{number_of, signed_of}
use Rattle.borsh_codec.proofs.ReadSteps.{took_weaker, took_then, Past, refused_map, refused_after}
use Rattle.borsh_codec.proofs.ReadRows.{RowSoFar}
use Rattle.borsh_de.specs.FixedWidth.{AreBytes, IsFixedWidth}

-- ---- bytes

bytes_front : (xs ys : List ℕ) → AreBytes (xs ++ ys) → AreBytes xs
bytes_front [] ys h i = omega arith
bytes_front (x ∷ xs) ys h zero = h 0
bytes_front (x ∷ xs) ys h (suc i) = bytes_front xs ys (λ j. h (suc j)) i

bytes_rest : (xs ys : List ℕ) → AreBytes (xs ++ ys) → AreBytes ys
bytes_rest [] ys h = h
bytes_rest (x ∷ xs) ys h = bytes_rest xs ys (λ j. h (suc j))

-- bytes that are cut in two
record Cut (n : ℕ) (x : List ℕ) : Type 0 where
  whole : x ≡ take n x ++ drop n x
  front : AreBytes (take n x)
  rest : AreBytes (drop n x)
  long : length (take n x) ≡ n
  more : length (drop n x) ≡ length x - n

cut : (n : ℕ) (x : List ℕ) → AreBytes x → n ≤ length x → Cut n x
cut n x b h =
    let w : x ≡ take n x ++ drop n x = sym (take-append-drop n x) in
    let b' = subst AreBytes w b in
    record { whole = w; front = bytes_front (take n x) (drop n x) b'; rest = bytes_rest (take n x) (drop n x) b'; long = length-take-le n x h; more = length-drop n x }

-- ---- numbers

pub unsigned_fixed : (n : ℕ) → IsFixedWidth (unsigned (suc n)) (suc n)
unsigned_fixed n = record {
  all = λ x b l. (_, number_of n x (sum_through (λ i. byte_worth i (get_or x i 0)) n) l b refl);
  only = λ m x v p. length-number (suc n) v x p;
  either_mode = λ x v p. p;
  without_memory = refl;
  made = λ v. tt;
}

-- numbers of one byte are bytes
pub bytes_of_row : (m : Bool) (x xs : List ℕ) → DecodesEach ((unsigned 1).decodes m) x xs → AreBytes xs
bytes_of_row m x [] p i = omega arith
bytes_of_row m x (b ∷ xs) p zero = (number_some 1 b p.first p.left).0
bytes_of_row m x (b ∷ xs) p (suc i) = bytes_of_row m p.second xs p.right i

pub signed_fixed : (w : Width) (n : ℕ) → 256 ^ suc n ≡ 2 ^ bits w → sign_bound (suc n) ≡ 2 ^ hbits w → 256 ^ suc n ≡ 2 * sign_bound (suc n) → IsFixedWidth (signed (suc n)) (suc n)
signed_fixed w n whole low even = record {
  all = λ x b l. (_, signed_of w (suc n) (sum_through (λ i. byte_worth i (get_or x i 0)) n) whole low even (number_of n x _ l b refl));
  only = λ m x v p. length-signed (suc n) v x p;
  either_mode = λ x v p. p;
  without_memory = refl;
  made = λ v. tt;
}

-- ---- parts

pub pair_fixed : {A B : Type 0} {a : Codec A} {b : Codec B} {n m : ℕ} → IsFixedWidth a n → IsFixedWidth b m → IsFixedWidth (pair a b) (n + m)
pair_fixed {n = n} {m = m} f g = record {
  all = λ x b l. (let c = cut n x b (omega (arith, l)) in let v = f.all (take n x) c.front c.long in let w = g.all (drop n x) c.rest (omega (arith, c.more, l)) in
      ((v.0, w.0), record { first = take n x; second = drop n x; whole = c.whole; left = v.1; right = w.1 }));
  only = λ s x v p. omega (arith, ap length p.whole, length-append p.first p.second, f.only s p.first v.0 p.left, g.only s p.second v.1 p.right);
  either_mode = λ x v p. record { first = p.first; second = p.second; whole = p.whole; left = f.either_mode p.first v.0 p.left; right = g.either_mode p.second v.1 p.right };
  without_memory = rw (f.without_memory, g.without_memory) refl;
  made = λ v. (f.made v.0, g.made v.1);
}

-- what has these parts is seen as them
pub contramap_fixed : {A B : Type 0} {c : Codec A} {n : ℕ} (view : B → A) → ((a : A) (x : List ℕ) → c.decodes true x a → (b : B) × (view b ≡ a)) → IsFixedWidth c n → IsFixedWidth (contramap view c) n
contramap_fixed {c = c} view made f = record {
  all = λ x b l. (let v = f.all x b l in let w = made v.0 x v.1 in (w.0, subst (λ a. c.decodes true x a) (sym w.1) v.1));
  only = λ s x v p. f.only s x (view v) p;
  either_mode = λ x v p. f.either_mode x (view v) p;
  without_memory = f.without_memory;
  made = λ v. f.made (view v);
}

-- ---- elements

module _ {A : Type 0} {c : Codec A} {w : ℕ} (f : IsFixedWidth c w) where
  each_all : (n : ℕ) (x : List ℕ) → AreBytes x → length x ≡ n * w → (xs : List A) × (length xs ≡ n) × DecodesEach (c.decodes true) x xs
  each_all zero x b l = ([], refl, nil_of_length x (omega (arith, l)))
  each_all (suc n) x b l =
      let k = cut w x b (omega (arith, l)) in
      let v = f.all (take w x) k.front k.long in
      let r = each_all n (drop w x) k.rest (omega (arith, k.more, l)) in
      (v.0 ∷ r.0, ap suc r.1, record { first = take w x; second = drop w x; whole = k.whole; left = v.1; right = r.2 })

  pub length-each : (m : Bool) (x : List ℕ) (xs : List A) → DecodesEach (c.decodes m) x xs → length x ≡ length xs * w
  length-each m x [] p = ap length p ∙ omega arith
  length-each m x (a ∷ xs) p = omega (arith, ap length p.whole, length-append p.first p.second, f.only m p.first a p.left, length-each m p.second xs p.right)

  each_mode : (x : List ℕ) (xs : List A) → DecodesEach (c.decodes true) x xs → DecodesEach (c.decodes false) x xs
  each_mode x [] p = p
  each_mode x (a ∷ xs) p = record { first = p.first; second = p.second; whole = p.whole; left = f.either_mode p.first a p.left; right = each_mode p.second xs p.right }

  pub in_mode : (m : Bool) (x : List ℕ) (xs : List A) → DecodesEach (c.decodes true) x xs → DecodesEach (c.decodes m) x xs
  in_mode true x xs p = p
  in_mode false x xs p = each_mode x xs p

  pub array_fixed : (n : ℕ) → IsFixedWidth (array n c) (n * w)
  array_fixed n = record {
    all = λ x b l. (let r = each_all n x b l in (r.0, record { long = r.1; parts = r.2 }));
    only = λ s x v p. length-each s x v p.parts ∙ ap (λ k. k * w) p.long;
    either_mode = λ x v p. record { long = p.long; parts = each_mode x v p.parts };
    without_memory = f.without_memory;
    made = λ v k d h. f.made (get_or v k d);
  }

-- as many bytes are as many elements
pub same_count : (n m w : ℕ) → 0 < w → n * w ≡ m * w → n ≡ m
same_count zero zero w h e = refl
same_count zero (suc m) w h e = absurd (omega arith)
same_count (suc n) zero w h e = absurd (omega arith)
same_count (suc n) (suc m) w h e = ap suc (same_count n m w h (omega (arith, e)))

pub some_factor : (w n m : ℕ) → m ≡ w * n → 0 < m → 0 < w
some_factor zero n m e h = absurd (omega (arith, e))
some_factor (suc w) n m e h = omega arith

-- the width of an array, as it is computed
pub array_width : {A : Type 0} {c : Codec A} {w : ℕ} (n m : ℕ) → m ≡ w * n → IsFixedWidth c w → IsFixedWidth (array n c) m
array_width {c = c} {w = w} n m e f = subst (IsFixedWidth (array n c)) (mul_comm n w ∙ sym e) (array_fixed f n)

-- ---- an array of fixed width has elements of fixed width

abbrev copies : ℕ → List ℕ → List ℕ
copies zero x = []
copies (suc n) x = x ++ copies n x

length-copies : (n : ℕ) (x : List ℕ) → length (copies n x) ≡ n * length x
length-copies zero x = omega arith
length-copies (suc n) x = omega (arith, length-append x (copies n x), length-copies n x)

bytes_both : (xs ys : List ℕ) → AreBytes xs → AreBytes ys → AreBytes (xs ++ ys)
bytes_both [] ys p q i = q i
bytes_both (x ∷ xs) ys p q zero = p zero
bytes_both (x ∷ xs) ys p q (suc i) = bytes_both xs ys (λ j. p (suc j)) q i

bytes_copies : (n : ℕ) (x : List ℕ) → AreBytes x → AreBytes (copies n x)
bytes_copies zero x b i = omega arith
bytes_copies (suc n) x b i = bytes_both x (copies n x) b (bytes_copies n x b) i

pub bytes_zero : (n : ℕ) → AreBytes (replicate n 0)
bytes_zero zero i = omega arith
bytes_zero (suc n) zero = omega arith
bytes_zero (suc n) (suc i) = bytes_zero n i

decodes_copies : {A : Type 0} (P : List ℕ → A → Type 0) (n : ℕ) (x : List ℕ) (v : A) → P x v → DecodesEach P (copies n x) (replicate n v)
decodes_copies P zero x v p = refl
decodes_copies P (suc n) x v p = record { first = x; second = copies n x; whole = refl; left = p; right = decodes_copies P n x v p }

-- fronts of one length are the same
front_same : (x y u v : List ℕ) → length x ≡ length u → x ++ y ≡ u ++ v → x ≡ u
front_same [] y [] v l e = refl
front_same [] y (b ∷ u) v l e = absurd (omega arith)
front_same (a ∷ x) y [] v l e = absurd (omega arith)
front_same (a ∷ x) y (b ∷ u) v l e =
    let tails : x ++ y ≡ u ++ v = cc in
    let heads : a ≡ b = cc in
    let same : x ≡ u = front_same x y u v (omega arith) tails in
    cc

first_of_row : {A : Type 0} (P : List ℕ → A → Type 0) (x : List ℕ) (xs : List A) (n : ℕ) → length xs ≡ suc n → DecodesEach P x xs → (y z : List ℕ) × (v : A) × (x ≡ y ++ z) × P y v
first_of_row P x [] n l p = absurd (omega arith)
first_of_row P x (a ∷ xs) n l p = (p.first, p.second, a, p.whole, p.left)

pub record ElementWidth {A : Type 0} (c : Codec A) (n m : ℕ) : Type 0 where
  pub width : ℕ
  pub whole : m ≡ suc n * width
  pub fixed : IsFixedWidth c width

-- some bytes decode to an element
module _ {A : Type 0} (c : Codec A) (n m : ℕ) (f : IsFixedWidth (array (suc n) c) m) (first : List ℕ) (one : A) (decodes : c.decodes true first one) where
  long : (s : Bool) (y : List ℕ) (v : A) → c.decodes s y v → suc n * length y ≡ m
  long s y v p = sym (length-copies (suc n) y) ∙ f.only s (copies (suc n) y) (replicate (suc n) v) (record { long = length-replicate (suc n) v; parts = decodes_copies (c.decodes s) (suc n) y v p })

  only : (s : Bool) (y : List ℕ) (v : A) → c.decodes s y v → length y ≡ length first
  only s y v p = same_count (length y) (length first) (suc n) (omega arith) (omega (arith, long s y v p, long true first one decodes))

  row : (x : List ℕ) → AreBytes x → length x ≡ length first → IsDecodable (array (suc n) c) true (copies (suc n) x)
  row x b l = f.all (copies (suc n) x) (bytes_copies (suc n) x b) (length-copies (suc n) x ∙ ap (λ k. suc n * k) l ∙ long true first one decodes)

  by_first : ElementWidth c n m
  by_first = record {
    width = length first;
    whole = sym (long true first one decodes);
    fixed = record {
      all = λ x b l. (let q = first_of_row (c.decodes true) (copies (suc n) x) (row x b l).0 n (row x b l).1.long (row x b l).1.parts in
          let same : q.0 ≡ x = front_same q.0 q.1 x (copies n x) (only true q.0 q.2 q.4 ∙ sym l) (sym q.3) in
          (q.2, subst (λ z. c.decodes true z q.2) same q.4));
      only = only;
      either_mode = λ x v p. (let q = f.either_mode (copies (suc n) x) (replicate (suc n) v) (record { long = length-replicate (suc n) v; parts = decodes_copies (c.decodes true) (suc n) x v p }) in
          let same : q.parts.first ≡ x = front_same q.parts.first q.parts.second x (copies n x) (only false q.parts.first v q.parts.left ∙ sym (only true x v p)) (sym q.parts.whole) in
          subst (λ z. c.decodes false z v) same q.parts.left);
      without_memory = f.without_memory;
      made = λ v. f.made (replicate (suc n) v) 0 v (omega arith);
    };
  }

pub element_width : {A : Type 0} (c : Codec A) (n m : ℕ) → IsFixedWidth (array (suc n) c) m → ElementWidth c n m
element_width c n m f =
    let z = f.all (replicate m 0) (bytes_zero m) (length-replicate m 0) in
    let q = first_of_row (c.decodes true) (replicate m 0) z.0 n z.1.long z.1.parts in
    by_first c n m f q.0 q.2 q.4

-- ---- elements that are read a room at a time

each_append : {A : Type 0} (P : List ℕ → A → Type 0) (x y : List ℕ) (xs ys : List A) → DecodesEach P x xs → DecodesEach P y ys → DecodesEach P (x ++ y) (xs ++ ys)
each_append P x y [] ys p q = subst (λ z. DecodesEach P (z ++ y) ys) (sym p) q
each_append P x y (a ∷ xs) ys p q = record {
  first = p.first;
  second = p.second ++ y;
  whole = ap (λ z. z ++ y) p.whole ∙ append_assoc p.first p.second y;
  left = p.left;
  right = each_append P p.second y xs ys p.right q;
}

-- some elements were read, and then the bytes of more
pub row_many : {A : Type 0} {c : Codec A} {w : ℕ} {s t u : ReaderState} {bytes : List ℕ} {xs : List A} (ys : List A) → IsFixedWidth c w → RowSoFar A c s t xs → TakesPrefix (λ x. x ≡ bytes) t u → DecodesEach (c.decodes true) bytes ys → RowSoFar A c s u (xs ++ ys)
row_many {c = c} {s = s} {bytes = bytes} {xs = xs} ys f p q e = record {
  took = took_weaker (λ x i. subst (λ z. DecodesEach (c.decodes s.strict_order) z (xs ++ ys)) (sym (i.whole ∙ ap (λ z. i.first ++ z) i.right)) (each_append (c.decodes s.strict_order) i.first bytes xs ys i.left (in_mode f s.strict_order bytes ys e))) (took_then p.took q);
  made = All-append c.made xs ys p.made (λ k d h. f.made (get_or ys k d));
}

-- fewer bytes than k are no front with more bytes
no_more : (k : ℕ) (o : Option (List ℕ)) → NoPrefix (λ x. length x ≡ k) o → NoPrefix (λ x. k ≤ length x) o
no_more k o none front rest e h =
    none (take k front) (drop k front ++ rest) (e ∙ ap Some (ap (λ z. z ++ rest) (sym (take-append-drop k front)) ∙ append_assoc (take k front) (drop k front) rest)) (length-take-le k front h)

-- of `len` elements some were read, and the bytes of the next n are refused
room_refused : {A : Type 0} {c : Codec A} {memory text : Bool} {w len k : ℕ} {s t u : ReaderState} {xs : List A} {kind : ErrorKind} (n : ℕ) → k ≡ n * w → IsFixedWidth c w → RowSoFar A c s t xs → length xs + n ≤ len → ReadFails false false (λ x. length x ≡ k) t u kind
    → ReadFails memory text (IsDecodable (array len c) s.strict_order) s u kind
room_refused {c = c} {w = w} {len = len} {k = k} {s = s} {t = t} {xs = xs} n is f p h r =
    refused_after (λ e. absurd (true≢false (sym e))) (λ e. absurd (true≢false (sym e))) p.took past (refused_map (λ e. e) (λ e. e) (no_more k) r)
  where
    past : (g q front rest : List ℕ) → DecodesEach (c.decodes s.strict_order) g xs → IsDecodable (array len c) s.strict_order front → g ++ q ≡ front ++ rest → Past (λ x. k ≤ length x) q rest
    past g q front rest a b e =
        let y : length g ≡ length xs * w = length-each f s.strict_order g xs a in
        let z : length front ≡ len * w = length-each f s.strict_order front b.0 b.1.parts ∙ ap (λ j. j * w) b.1.long in
        let m : (length xs + n) * w ≤ len * w = mul-le-mul_right w h in
        elim (cuts g q front rest e) [
          | inl i ↦ record { more = i.more; whole = i.rest; holds = omega (arith, is, y, z, m, ap length i.front, length-append g i.more) }
          | inr i ↦ (let none : i.more ≡ [] = nil_of_length i.more (omega (arith, is, y, z, m, ap length i.front, length-append front i.more)) in
              record { more = []; whole = sym (i.rest ∙ ap (λ z. z ++ q) none); holds = omega (arith, is, y, z, m, ap length i.front, length-append front i.more) })
        ]

pub denied_room : {A : Type 0} {c : Codec A} {w len k : ℕ} {s t u : ReaderState} {xs : List A} {kind : ErrorKind} (n : ℕ) → k ≡ n * w → IsFixedWidth c w → RowSoFar A c s t xs → length xs + n ≤ len → ReadFails false false (λ x. length x ≡ k) t u kind → NotDecoded (List A) (allocated_array len c) s u kind
denied_room n is f p h r = record { refused = room_refused n is f p h r }
