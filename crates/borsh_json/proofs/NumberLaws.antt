-- Whole numbers below a power of 256, and their bytes.
use Rattle.std.proofs.{Common.{◌≡◌, ℕ, suc, zero, ◌+◌, ◌-◌, ◌*◌, ◌/◌, ◌%◌, ◌<◌, ◌≤◌, ◌^◌, List, [], ◌∷◌, ◌++◌, map, take, min, replicate, inl, inr, Bool, true, false, refl, sym, ◌∙◌, ap, subst, arith, append_assoc, SFits, ℤ, pos, negsuc, neg_ℤ, ◌<ℤ◌, Result, Ok, Err, OnOk, FitsSigned, pow-add, pow_pos, Ordering, Less, Equal, Greater, append-nil}, lemmas.Fmt.{decimal_digit, decimal_is_IsNumeral_wide}, Math.Nat.{pow-suc, div-lt_iff_lt-mul, div-div-eq-div-mul}, lemmas.Int.{ints, to_z-of_z}, lemmas.Bool.{cases_lt}, lemmas.Bool.Decides.{nat_tests}}
use Rattle.std.specs.{Int.Signed.{lt_z}, Int.{byte_at, bytes_low_first, cast_signed, cast_unsigned, to_le_bytes, w64, w128}, Ordering.{nat_cmp, int_cmp, is_eq, MatchOrdering}, Cmp.{nat_cmp_is, int_ranks, Equal-is}, Fmt.{decimal, signed_decimal}, Str.Parse.{signed_digits_value}}
use Rattle.borsh_walks.specs.Container.{tag, little_endian}
use Rattle.borsh_json.specs.{Table.{InRange, IsWhole}, Ranks.{rank_of, HasRank}}
use Rattle.borsh_json.proofs.{DecimalLaws.{numeral_value}, RepresentsLaws.{IsShort, decimal_one, power_most, short}}

byte_power : (s : ℕ) → 2 ^ (8 * s) ≡ 256 ^ s
byte_power zero = refl
byte_power (suc s) =
    let e : 8 * suc s ≡ 8 * s + 8 = omega arith in
    ap (λ k. 2 ^ k) e ∙ pow-add 2 (8 * s) 8 ∙ ap (λ k. k * 256) (byte_power s) ∙ sym (pow-suc 256 s)

pub below_shift : (n s : ℕ) → (n / 2 ^ (8 * s) ≡ 0 → n < 256 ^ s) × (n < 256 ^ s → n / 2 ^ (8 * s) ≡ 0)
below_shift n s =
    let e = byte_power s in
    let i = div-lt_iff_lt-mul {k = 2 ^ (8 * s)} {x = n} {y = 1} (pow_pos (8 * s)) in
    ((λ z. let l : n / 2 ^ (8 * s) < 1 = omega (arith, z) in omega (arith, i.0 l, e)), (λ l. let m : n < 1 * 2 ^ (8 * s) = omega (arith, e) in omega (arith, i.1 m)))

-- ---- the lowest bytes
take_low : (i k n x : ℕ) → n ≤ k → take n (bytes_low_first i k x) ≡ bytes_low_first i n x
take_low i k zero x h = refl
take_low i zero (suc n) x h = absurd (omega arith)
take_low i (suc k) (suc n) x h = ap (λ r. byte_at i x ∷ r) (take_low (suc i) k n x (omega arith))

at_is : (i x : ℕ) → byte_at i x ≡ x / 256 ^ i % 256
at_is zero x = omega arith
at_is (suc i) x = refl

low_is : (i n x : ℕ) → bytes_low_first i n x ≡ little_endian n (x / 256 ^ i)
low_is i zero x = refl
low_is i (suc n) x =
    let e : x / 256 ^ suc i ≡ x / 256 ^ i / 256 = ap (λ k. x / k) (pow-suc 256 i) ∙ sym (div-div-eq-div-mul x (256 ^ i) 256) in
    ap (λ b. b ∷ bytes_low_first (suc i) n x) (at_is i x) ∙ ap (λ l. x / 256 ^ i % 256 ∷ l) (low_is (suc i) n x ∙ ap (λ y. little_endian n y) e)

pub low_whole : (n x : ℕ) → bytes_low_first 0 n x ≡ little_endian n x
low_whole n x = low_is 0 n x ∙ ap (λ y. little_endian n y) (let e : x / 256 ^ 0 ≡ x = omega arith in e)

pub taken_low : (n x : ℕ) → n ≤ 16 → take n (to_le_bytes w128 x) ≡ little_endian n x
taken_low n x h = take_low 0 16 n x h ∙ low_whole n x

-- the bytes of a negative number are those of its complement
complement : (n k m : ℕ) → n ≤ k → m < 256 ^ k → little_endian n (256 ^ k - suc m) ≡ map (λ b. 255 - b) (little_endian n m)
complement zero k m h l = refl
complement (suc n) zero m h l = absurd (omega arith)
complement (suc n) (suc k) m h l =
    let p = pow-suc 256 k in
    let a : (256 ^ suc k - suc m) % 256 ≡ 255 - m % 256 = omega (arith, p) in
    let b : (256 ^ suc k - suc m) / 256 ≡ 256 ^ k - suc (m / 256) = omega (arith, p) in
    let r = complement n k (m / 256) (omega arith) (omega (arith, p)) in
    ap (λ x. x ∷ little_endian n ((256 ^ suc k - suc m) / 256)) a ∙ ap (λ l. (255 - m % 256) ∷ l) (ap (λ x. little_endian n x) b ∙ r)

-- those of a number of at most 8 bytes, and above them zeros
zeros : (k : ℕ) → little_endian k 0 ≡ replicate k 0
zeros zero = refl
zeros (suc k) = ap (λ l. 0 ∷ l) (zeros k)

low_more : (j k n : ℕ) → n < 256 ^ j → little_endian (j + k) n ≡ little_endian j n ++ replicate k 0
low_more zero k n h = let e : n ≡ 0 = omega arith in let z : zero + k ≡ k = omega arith in ap (λ i. little_endian i n) z ∙ ap (λ m. little_endian k m) e ∙ zeros k
low_more (suc j) k n h =
    let p = pow-suc 256 j in
    let e : suc j + k ≡ suc (j + k) = omega arith in
    ap (λ i. little_endian i n) e ∙ ap (λ l. n % 256 ∷ l) (low_more j k (n / 256) (omega (arith, p)))

taken : (w n : ℕ) → w ≤ 8 → take w (to_le_bytes w64 n) ≡ little_endian w n
taken w n h = take_low 0 8 w n h ∙ low_whole w n

pub count_bytes : (w n : ℕ) → n < 2 ^ 64 → take (min w 8) (to_le_bytes w64 n) ++ replicate (w - 8) 0 ≡ tag w (pos n)
count_bytes w n h = elim (cases_lt w 9) [
  | inl l ↦ (let a : min w 8 ≡ w = omega arith in let b : w - 8 ≡ 0 = omega arith in
      ap (λ i. take i (to_le_bytes w64 n) ++ replicate (w - 8) 0) a ∙ ap (λ i. take w (to_le_bytes w64 n) ++ replicate i 0) b ∙ append-nil (take w (to_le_bytes w64 n)) ∙ taken w n (omega arith))
  | inr l ↦ (let a : min w 8 ≡ 8 = omega arith in let b : 8 + (w - 8) ≡ w = omega arith in
      ap (λ i. take i (to_le_bytes w64 n) ++ replicate (w - 8) 0) a ∙ ap (λ l. l ++ replicate (w - 8) 0) (taken 8 n (omega arith)) ∙ sym (low_more 8 (w - 8) n (omega arith)) ∙ ap (λ i. little_endian i n) b)
]

-- bytes that were put, and what they are
pub put_is : {E : Type 0} (r : Result Unit E) (new old : List ℕ) (w : ℕ) (bs : List ℕ) (fill : ℕ) (number own : List ℕ) → bs ≡ number → take (min w 8) number ++ replicate (w - 8) fill ≡ own → OnOk r (new ≡ old ++ take (min w 8) bs ++ replicate (w - 8) fill) → OnOk r (new ≡ old ++ own)
put_is (Ok u) new old w bs fill number own e f o = o ∙ append_assoc old (take (min w 8) bs) (replicate (w - 8) fill) ∙ ap (λ l. old ++ (take (min w 8) l ++ replicate (w - 8) fill)) e ∙ ap (λ l. old ++ l) f
put_is (Err x) new old w bs fill number own e f o = tt

map_both : (xs ys : List ℕ) → map (λ b. 255 - b) (xs ++ ys) ≡ map (λ b. 255 - b) xs ++ map (λ b. 255 - b) ys
map_both [] ys = refl
map_both (x ∷ xs) ys = ap (λ l. (255 - x) ∷ l) (map_both xs ys)

ones : (k : ℕ) → map (λ b. 255 - b) (replicate k 0) ≡ replicate k 255
ones zero = refl
ones (suc k) = ap (λ l. 255 ∷ l) (ones k)

pub tag_bytes : (w m : ℕ) → m < 2 ^ 63 → take (min w 8) (to_le_bytes w64 (2 ^ 64 - suc m)) ++ replicate (w - 8) 255 ≡ tag w (negsuc m)
tag_bytes w m h = elim (cases_lt w 9) [
  | inl l ↦ (let a : min w 8 ≡ w = omega arith in let b : w - 8 ≡ 0 = omega arith in
      ap (λ i. take i (to_le_bytes w64 (2 ^ 64 - suc m)) ++ replicate (w - 8) 255) a ∙ ap (λ i. take w (to_le_bytes w64 (2 ^ 64 - suc m)) ++ replicate i 255) b ∙ append-nil (take w (to_le_bytes w64 (2 ^ 64 - suc m))) ∙ taken w (2 ^ 64 - suc m) (omega arith) ∙ complement w 8 m (omega arith) (omega arith))
  | inr l ↦ (let a : min w 8 ≡ 8 = omega arith in let b : 8 + (w - 8) ≡ w = omega arith in
      ap (λ i. take i (to_le_bytes w64 (2 ^ 64 - suc m)) ++ replicate (w - 8) 255) a ∙ ap (λ l. l ++ replicate (w - 8) 255) (taken 8 (2 ^ 64 - suc m) (omega arith) ∙ complement 8 8 m (omega arith) (omega arith))
      ∙ ap (λ l. map (λ b. 255 - b) (little_endian 8 m) ++ l) (sym (ones (w - 8))) ∙ sym (map_both (little_endian 8 m) (replicate (w - 8) 0)) ∙ ap (λ l. map (λ b. 255 - b) l) (sym (low_more 8 (w - 8) m (omega arith)) ∙ ap (λ i. little_endian i m) b))
]

abbrev pub fill_of : ℤ → ℕ
fill_of (pos n) = 0
fill_of (negsuc n) = 255

read : (d : ℤ) → SFits w64 d → cast_signed w64 (cast_unsigned w64 d) ≡ d
read d f = to_z-of_z w64 d f

pub fill_negative : (d : ℤ) → SFits w64 d → lt_z (cast_signed w64 (cast_unsigned w64 d)) (pos 0) ≡ true → 255 ≡ fill_of d
fill_negative d f e = negative d (subst (λ d. lt_z d (pos 0) ≡ true) (read d f) e)
  where
    negative : (d : ℤ) → lt_z d (pos 0) ≡ true → 255 ≡ fill_of d
    negative (pos n) h = absurd (let g : n < 0 = grind (arith, nat_tests) in omega (arith, g))
    negative (negsuc n) h = refl

pub fill_positive : (d : ℤ) → SFits w64 d → lt_z (cast_signed w64 (cast_unsigned w64 d)) (pos 0) ≡ false → 0 ≡ fill_of d
fill_positive d f e = positive d (subst (λ d. lt_z d (pos 0) ≡ false) (read d f) e)
  where
    positive : (d : ℤ) → lt_z d (pos 0) ≡ false → 0 ≡ fill_of d
    positive (pos n) h = refl
    positive (negsuc n) h = cc

pub tag_is : (d : ℤ) (w fill : ℕ) → SFits w64 d → fill ≡ fill_of d → take (min w 8) (to_le_bytes w64 (cast_unsigned w64 (cast_signed w64 (cast_unsigned w64 d)))) ++ replicate (w - 8) fill ≡ tag w d
tag_is d w fill f e = ap (λ z. take (min w 8) (to_le_bytes w64 (cast_unsigned w64 z)) ++ replicate (w - 8) fill) (read d f) ∙ plain d f e
  where
    plain : (d : ℤ) → SFits w64 d → fill ≡ fill_of d → take (min w 8) (to_le_bytes w64 (cast_unsigned w64 d)) ++ replicate (w - 8) fill ≡ tag w d
    plain (pos n) f e = ap (λ k. take (min w 8) (to_le_bytes w64 n) ++ replicate (w - 8) k) e ∙ count_bytes w n (omega (arith, f.sfits))
    plain (negsuc n) f e = ap (λ k. take (min w 8) (to_le_bytes w64 (2 ^ 64 - suc n)) ++ replicate (w - 8) k) e ∙ tag_bytes w n (omega (arith, f.sfits))

-- at most eight bytes of a number
pub tag_taken : (d : ℤ) (n : ℕ) (bs : List ℕ) → SFits w64 d → n ≤ 8 → bs ≡ to_le_bytes w64 (cast_unsigned w64 (cast_signed w64 (cast_unsigned w64 d))) → take n bs ≡ tag n d
tag_taken d n bs f low e =
    let a : min n 8 ≡ n = omega (arith, low) in
    let b : n - 8 ≡ 0 = omega (arith, low) in
    let number = to_le_bytes w64 (cast_unsigned w64 (cast_signed w64 (cast_unsigned w64 d))) in
    ap (λ l. take n l) e ∙ sym (append-nil (take n number)) ∙ ap (λ k. take n number ++ replicate k (fill_of d)) (sym b) ∙ ap (λ k. take k number ++ replicate (n - 8) (fill_of d)) (sym a) ∙ tag_is d n (fill_of d) f refl

replicate_more : (k f : ℕ) → replicate (suc k) f ≡ replicate k f ++ f ∷ []
replicate_more zero f = refl
replicate_more (suc k) f = ap (λ l. f ∷ l) (replicate_more k f)

pub fill_more : (xs ys base : List ℕ) (i f : ℕ) → 8 ≤ i → xs ≡ base ++ replicate (i - 8) f → ys ≡ xs ++ f ∷ [] → ys ≡ base ++ replicate (i + 1 - 8) f
fill_more xs ys base i f h e g =
    let k : i + 1 - 8 ≡ suc (i - 8) = omega arith in
    g ∙ ap (λ l. l ++ f ∷ []) e ∙ append_assoc base (replicate (i - 8) f) (f ∷ []) ∙ ap (λ l. base ++ l) (sym (replicate_more (i - 8) f) ∙ ap (λ k. replicate k f) (sym k))

-- ---- ranks
pub rank_bytes : (n : ℕ) (signed : Bool) (z : ℤ) (r turned : ℕ) → n ≤ 16 → InRange n signed z → r ≡ rank_of signed z → turned ≡ rank_of signed (pos 0) → take n (to_le_bytes w128 ((r + turned) % 2 ^ 128)) ≡ tag n z
rank_bytes n false (pos m) r turned h i e t =
    let p = power_most n h in
    let q : (r + turned) % 2 ^ 128 ≡ m = omega (arith, p) in
    taken_low n ((r + turned) % 2 ^ 128) h ∙ ap (λ x. little_endian n x) q
rank_bytes n false (negsuc m) r turned h i e t = absurd i
rank_bytes n true (pos m) r turned h i e t =
    let p = power_most n h in
    let q : (r + turned) % 2 ^ 128 ≡ m = omega (arith, p) in
    taken_low n ((r + turned) % 2 ^ 128) h ∙ ap (λ x. little_endian n x) q
rank_bytes n true (negsuc m) r turned h i e t =
    let p = power_most n h in
    let q : (r + turned) % 2 ^ 128 ≡ 256 ^ 16 - suc m = omega (arith, p) in
    taken_low n ((r + turned) % 2 ^ 128) h ∙ ap (λ x. little_endian n x) q ∙ complement n 16 m h (omega (arith, p))

-- ---- what a text is, by its number
module _ (n : ℕ) (signed non_zero : Bool) (s : List ℕ) (small : n ≤ 16) where
  abbrev Whole : List ℕ → Type 0
  Whole own = IsWhole n signed non_zero s own

  pub zero_refused : non_zero ≡ true → s ≡ 48 ∷ [] → (own : List ℕ) → Whole own → ⊥
  zero_refused t e own w = w.4 t (decimal_one w.0 (pos 0) (short n signed w.0 small w.3) (omega arith) (sym w.1 ∙ e ∙ sym (decimal_digit 0 (omega arith))))

  pub signed_none : signed ≡ true → ((z : ℤ) → FitsSigned w128 z → s ≡ signed_decimal z → ⊥) → (own : List ℕ) → Whole own → ⊥
  signed_none t none own w = none w.0 (fits w.0 (subst (λ b. InRange n b w.0) t w.3)) w.1
    where
      fits : (z : ℤ) → InRange n true z → FitsSigned w128 z
      fits (pos m) r = let p = power_most n small in record { sfits = omega arith }
      fits (negsuc m) r = let p = power_most n small in record { sfits = omega arith }

  pub unsigned_none : signed ≡ false → ((m : ℕ) → m < 2 ^ 128 → s ≡ decimal m → ⊥) → (own : List ℕ) → Whole own → ⊥
  unsigned_none t none own w = fits w.0 (subst (λ b. InRange n b w.0) t w.3) w.1
    where
      fits : (z : ℤ) → InRange n false z → s ≡ signed_decimal z → ⊥
      fits (pos m) r e = none m (let p = power_most n small in omega arith) e
      fits (negsuc m) r e = r

  pub signed_beyond : signed ≡ true → (z : ℤ) → FitsSigned w128 z → s ≡ signed_decimal z → (InRange n true z → ⊥) → (own : List ℕ) → Whole own → ⊥
  signed_beyond t z f e beyond own w =
      let q = decimal_one w.0 z (short n signed w.0 small w.3) (brief z f) (sym w.1 ∙ e) in
      beyond (subst (λ z. InRange n true z) q (subst (λ b. InRange n b w.0) t w.3))
    where
      brief : (z : ℤ) → FitsSigned w128 z → IsShort z
      brief (pos m) f = omega (arith, f.sfits)
      brief (negsuc m) f = omega (arith, f.sfits)

  pub unsigned_beyond : signed ≡ false → (m : ℕ) → m < 2 ^ 128 → s ≡ decimal m → (m < 256 ^ n → ⊥) → (own : List ℕ) → Whole own → ⊥
  unsigned_beyond t m f e beyond own w =
      let q = decimal_one w.0 (pos m) (short n signed w.0 small w.3) f (sym w.1 ∙ e) in
      beyond (subst (λ z. InRange n false z) q (subst (λ b. InRange n b w.0) t w.3))

  module _ (some : non_zero ≡ true → s ≡ 48 ∷ [] → ⊥) where
    no_zero : (z : ℤ) → s ≡ signed_decimal z → non_zero ≡ true → z ≡ pos 0 → ⊥
    no_zero z e t q = some t (e ∙ ap (λ z. signed_decimal z) q ∙ decimal_digit 0 (omega arith))

    pub signed_found : signed ≡ true → (z : ℤ) → s ≡ signed_decimal z → InRange n true z → (r : ℕ) → r ≡ rank_of true z → HasRank n signed non_zero s r
    signed_found t z e i r q = (z, e, subst (λ b. InRange n b z) (sym t) i, no_zero z e, q ∙ ap (λ b. rank_of b z) (sym t))

    pub unsigned_found : signed ≡ false → (m : ℕ) → s ≡ decimal m → m < 256 ^ n → HasRank n signed non_zero s m
    unsigned_found t m e i = (pos m, e, subst (λ b. InRange n b (pos m)) (sym t) i, no_zero (pos m) e, ap (λ b. rank_of b (pos m)) (sym t))

-- ---- the order of ranks is that of the numbers
pub value_of : (z : ℤ) → IsShort z → signed_digits_value 10 (signed_decimal z) ≡ z
value_of (pos m) h =
    let k = decimal_is_IsNumeral_wide m (omega arith) in
    numeral_value (decimal m) k.0 ∙ ap (λ m. pos m) k.1
value_of (negsuc m) h =
    let k = decimal_is_IsNumeral_wide (suc m) (omega arith) in
    ap (λ m. neg_ℤ (pos m)) k.1

rank_order : (n : ℕ) (signed : Bool) (y z : ℤ) → n ≤ 16 → InRange n signed y → InRange n signed z → nat_cmp (rank_of signed y) (rank_of signed z) ≡ int_cmp y z
rank_order n false (pos y) (pos z) h a b = grind (arith, ints, nat_tests)
rank_order n false (pos y) (negsuc z) h a b = absurd b
rank_order n false (negsuc y) z h a b = absurd a
rank_order n true (pos y) (pos z) h a b = grind (arith, ints, nat_tests)
rank_order n true (pos y) (negsuc z) h a b = let p = power_most n h in sym (nat_cmp_is (2 ^ 127 + y) (2 ^ 127 - suc z) Greater (omega arith))
rank_order n true (negsuc y) (pos z) h a b = let p = power_most n h in sym (nat_cmp_is (2 ^ 127 - suc y) (2 ^ 127 + z) Less (omega arith))
rank_order n true (negsuc y) (negsuc z) h a b = let p = power_most n h in sym (nat_cmp_is (2 ^ 127 - suc y) (2 ^ 127 - suc z) (int_cmp (negsuc y) (negsuc z)) (turned (int_cmp (negsuc y) (negsuc z)) (omega arith) (omega arith) (int_ranks (negsuc y) (negsuc z))))
  where
    turned : (r : Ordering) → y < 2 ^ 127 → z < 2 ^ 127 → MatchOrdering r (negsuc y <ℤ negsuc z) (negsuc y ≡ negsuc z) (negsuc z <ℤ negsuc y) → MatchOrdering r (2 ^ 127 - suc y < 2 ^ 127 - suc z) (2 ^ 127 - suc y ≡ 2 ^ 127 - suc z) (2 ^ 127 - suc z < 2 ^ 127 - suc y)
    turned Less p q m = omega (arith, ints)
    turned Equal p q m = let e : y ≡ z = cc in omega (arith, e)
    turned Greater p q m = omega (arith, ints)

-- texts with one rank are one
pub rank_one : (n : ℕ) (signed non_zero : Bool) (s t : List ℕ) (q r : ℕ) → n ≤ 16 → HasRank n signed non_zero s q → HasRank n signed non_zero t r → is_eq (nat_cmp q r) ≡ true → s ≡ t
rank_one n signed non_zero s t q r h a b e =
    let o : int_cmp a.0 b.0 ≡ Equal = sym (rank_order n signed a.0 b.0 h a.2 b.2) ∙ ap (λ x. nat_cmp x (rank_of signed b.0)) (sym a.4) ∙ ap (λ y. nat_cmp q y) (sym b.4) ∙ (Equal-is (nat_cmp q r)).0 e in
    let z : a.0 ≡ b.0 = subst (λ o. MatchOrdering o (a.0 <ℤ b.0) (a.0 ≡ b.0) (b.0 <ℤ a.0)) o (int_ranks a.0 b.0) in
    a.1 ∙ ap (λ z. signed_decimal z) z ∙ sym b.1

pub ranks_compare : (n : ℕ) (signed non_zero : Bool) (s t : List ℕ) (q r : ℕ) → n ≤ 16 → HasRank n signed non_zero s q → HasRank n signed non_zero t r → nat_cmp q r ≡ int_cmp (signed_digits_value 10 s) (signed_digits_value 10 t)
ranks_compare n signed non_zero s t q r h a b =
    let d = λ (z : ℤ) (s : List ℕ). λ (e : s ≡ signed_decimal z). λ (i : InRange n signed z). ap (λ s. signed_digits_value 10 s) e ∙ value_of z (short n signed z h i) in
    ap (λ q. nat_cmp q r) a.4 ∙ ap (λ r. nat_cmp (rank_of signed a.0) r) b.4 ∙ rank_order n signed a.0 b.0 h a.2 b.2 ∙ ap (λ y. int_cmp y b.0) (sym (d a.0 s a.1 a.2)) ∙ ap (λ z. int_cmp (signed_digits_value 10 s) z) (sym (d b.0 t b.1 b.2))
