-- How numbers compare by their bytes.
use Rattle.std.proofs.{Common.{◌≡◌, ℕ, suc, zero, ◌-◌, ◌*◌, ◌/◌, ◌%◌, ◌<◌, ◌≤◌, ◌^◌, List, [], ◌∷◌, length, map, drop, get_or, min, Bool, true, false, leb, refl, sym, ◌∙◌, ap, arith, pow-suc, ℤ, pos, negsuc, ◌<ℤ◌, Ordering, Less, Equal, Greater}, lemmas.Cmp.{ranked}, lemmas.Bool.Decides.{nat_tests}, lemmas.Int.{ints}}
use mathlib.Core.Bool.{not, beq}
use Rattle.std.specs.{Ordering.{nat_cmp, int_cmp, bool_cmp, MatchOrdering}, Cmp.{nat_cmp_is, int_cmp_is, int_ranks}}
use Rattle.borsh_walks.specs.Container.{tag, little_endian}
use Rattle.borsh_values.proofs.TagLaws.{drop_at}
use Rattle.borsh_json.specs.Table.{InRange}
use Rattle.borsh_values.specs.Tags.{is_negative}
pub use Rattle.borsh_walks.proofs.Laws.{length-tag as long_tag}

pub one_low : (n x y : ℕ) → x < 256 ^ n → y < 256 ^ n → little_endian n x ≡ little_endian n y → x ≡ y
one_low zero x y a b e = let p : 256 ^ 0 ≡ 1 = refl in omega (arith, p)
one_low (suc n) x y a b e =
    let h : x % 256 ≡ y % 256 = cc in
    let t : little_endian n (x / 256) ≡ little_endian n (y / 256) = cc in
    let p = pow-suc 256 n in
    let r = one_low n (x / 256) (y / 256) (omega (arith, p)) (omega (arith, p)) t in
    omega (arith, h, r)

-- the byte at p is less, and those above it are the same
above : (n p x y : ℕ) → x < 256 ^ n → y < 256 ^ n → p < n → get_or (little_endian n x) p 0 < get_or (little_endian n y) p 0 → drop (suc p) (little_endian n x) ≡ drop (suc p) (little_endian n y) → x < y
above zero p x y a b h l e = absurd (omega arith)
above (suc n) zero x y a b h l e =
    let p = pow-suc 256 n in
    let d : x / 256 ≡ y / 256 = one_low n (x / 256) (y / 256) (omega (arith, p)) (omega (arith, p)) e in
    let k : x % 256 < y % 256 = l in
    omega (arith, d, k)
above (suc n) (suc p) x y a b h l e =
    let q = pow-suc 256 n in
    let r = above n p (x / 256) (y / 256) (omega (arith, q)) (omega (arith, q)) (omega (arith, h)) l e in
    omega (arith, r)

long : (n x : ℕ) → length (little_endian n x) ≡ n
long zero x = refl
long (suc n) x = ap (λ k. suc k) (long n (x / 256))

-- the highest byte that differs decides
pub bytes_cmp : (n p x y : ℕ) (l r : List ℕ) → x < 256 ^ n → y < 256 ^ n → l ≡ little_endian n x → r ≡ little_endian n y → p < length l → drop (suc p) l ≡ drop (suc p) r → (get_or l p 0 ≡ get_or r p 0 → ⊥) → nat_cmp (get_or l p 0) (get_or r p 0) ≡ nat_cmp x y
bytes_cmp n p x y l r a b el er h e d = nat_cmp_is x y (nat_cmp (get_or l p 0) (get_or r p 0)) (by (nat_cmp (get_or l p 0) (get_or r p 0)) (ranked (get_or l p 0) (get_or r p 0) (nat_cmp (get_or l p 0) (get_or r p 0)) refl))
  where
    at : p < n
    at = let k = ap (λ l. length l) el ∙ long n x in omega (arith, h, k)

    same : drop (suc p) (little_endian n x) ≡ drop (suc p) (little_endian n y)
    same = ap (λ l. drop (suc p) l) (sym el) ∙ e ∙ ap (λ r. drop (suc p) r) er

    by : (o : Ordering) → MatchOrdering o (get_or l p 0 < get_or r p 0) (get_or l p 0 ≡ get_or r p 0) (get_or r p 0 < get_or l p 0) → MatchOrdering o (x < y) (x ≡ y) (y < x)
    by Less m = above n p x y a b at (let i = ap (λ l. get_or l p 0) el in let j = ap (λ r. get_or r p 0) er in omega (arith, m, i, j)) same
    by Equal m = absurd (d m)
    by Greater m = above n p y x b a at (let i = ap (λ l. get_or l p 0) el in let j = ap (λ r. get_or r p 0) er in omega (arith, m, i, j)) (sym same)

pub same_cmp : (n x y : ℕ) (l r : List ℕ) → x < 256 ^ n → y < 256 ^ n → l ≡ little_endian n x → r ≡ little_endian n y → drop 0 l ≡ drop 0 r → Equal ≡ nat_cmp x y
same_cmp n x y l r a b p q e = nat_cmp_is x y Equal (one_low n x y a b (sym p ∙ e ∙ q))

-- ---- signs
last_low : (n m : ℕ) → 2 * m < 256 ^ suc n → get_or (little_endian (suc n) m) n 0 < 128
last_low zero m h = let p : 256 ^ 1 ≡ 256 = refl in let k : m % 256 < 128 = omega (arith, h, p) in k
last_low (suc n) m h = let p = pow-suc 256 (suc n) in last_low n (m / 256) (omega (arith, h, p))

last_high : (n m : ℕ) → 2 * m < 256 ^ suc n → 128 ≤ get_or (map (λ b. 255 - b) (little_endian (suc n) m)) n 0
last_high zero m h = let p : 256 ^ 1 ≡ 256 = refl in let k : 128 ≤ 255 - m % 256 = omega (arith, h, p) in k
last_high (suc n) m h = let p = pow-suc 256 (suc n) in last_high n (m / 256) (omega (arith, h, p))

-- the highest byte tells the sign
pub sign_top : (n : ℕ) (z : ℤ) (l : List ℕ) (negative : Bool) → 0 < n → InRange n true z → l ≡ tag n z → (negative ≡ true → 128 ≤ get_or l (n - 1) 0) → (negative ≡ false → get_or l (n - 1) 0 < 128) → negative ≡ is_negative z
sign_top zero z l t h i e a b = absurd (omega arith)
sign_top (suc n) (pos m) l false h i e a b = refl
sign_top (suc n) (pos m) l true h i e a b =
    let k = last_low n m i in
    let j : suc n - 1 ≡ n = omega arith in
    let g = ap (λ k. get_or l k 0) j ∙ ap (λ l. get_or l n 0) e in
    let f = a refl in
    absurd (omega (arith, k, g, f))
sign_top (suc n) (negsuc m) l true h i e a b = refl
sign_top (suc n) (negsuc m) l false h i e a b =
    let k = last_high n m i in
    let j : suc n - 1 ≡ n = omega arith in
    let g = ap (λ k. get_or l k 0) j ∙ ap (λ l. get_or l n 0) e in
    let f = b refl in
    absurd (omega (arith, k, g, f))

complement : (n m : ℕ) → m < 256 ^ n → little_endian n (256 ^ n - suc m) ≡ map (λ b. 255 - b) (little_endian n m)
complement zero m h = refl
complement (suc n) m h =
    let p = pow-suc 256 n in
    let a : (256 ^ suc n - suc m) % 256 ≡ 255 - m % 256 = omega (arith, p) in
    let b : (256 ^ suc n - suc m) / 256 ≡ 256 ^ n - suc (m / 256) = omega (arith, p) in
    let r = complement n (m / 256) (omega (arith, p)) in
    ap (λ x. x ∷ little_endian n ((256 ^ suc n - suc m) / 256)) a ∙ ap (λ l. (255 - m % 256) ∷ l) (ap (λ x. little_endian n x) b ∙ r)

-- numbers of one sign compare as those without one that have their bytes
pub as_naturals : (n : ℕ) (signed : Bool) (y z : ℤ) → InRange n signed y → InRange n signed z → (signed ≡ true → is_negative y ≡ is_negative z) → (a : ℕ) × (b : ℕ) × (a < 256 ^ n) × (b < 256 ^ n) × (tag n y ≡ little_endian n a) × (tag n z ≡ little_endian n b) × (nat_cmp a b ≡ int_cmp y z)
as_naturals n false (pos a) (pos b) i j s = (a, b, i, j, refl, refl, grind (arith, ints, nat_tests))
as_naturals n false (pos a) (negsuc b) i j s = absurd j
as_naturals n false (negsuc a) z i j s = absurd i
as_naturals n true (pos a) (pos b) i j s = (a, b, omega (arith, i), omega (arith, j), refl, refl, grind (arith, ints, nat_tests))
as_naturals n true (pos a) (negsuc b) i j s = absurd (let e = s refl in cc)
as_naturals n true (negsuc a) (pos b) i j s = absurd (let e = s refl in cc)
as_naturals n true (negsuc a) (negsuc b) i j s =
    let h : a < 256 ^ n = omega (arith, i) in
    let k : b < 256 ^ n = omega (arith, j) in
    (256 ^ n - suc a, 256 ^ n - suc b, omega (arith, h), omega (arith, k), sym (complement n a h), sym (complement n b k), sym (nat_cmp_is (256 ^ n - suc a) (256 ^ n - suc b) (int_cmp (negsuc a) (negsuc b)) (turned (256 ^ n) (int_cmp (negsuc a) (negsuc b)) h k (int_ranks (negsuc a) (negsuc b)))))
  where
    turned : (p : ℕ) (r : Ordering) → a < p → b < p → MatchOrdering r (negsuc a <ℤ negsuc b) (negsuc a ≡ negsuc b) (negsuc b <ℤ negsuc a) → MatchOrdering r (p - suc a < p - suc b) (p - suc a ≡ p - suc b) (p - suc b < p - suc a)
    turned p Less h k m = omega (arith, ints)
    turned p Equal h k m = let e : a ≡ b = cc in omega (arith, e)
    turned p Greater h k m = omega (arith, ints)

-- numbers of two signs
pub by_signs : (y z : ℤ) → (is_negative y ≡ is_negative z → ⊥) → bool_cmp (is_negative z) (is_negative y) ≡ int_cmp y z
by_signs (pos a) (pos b) n = absurd (n refl)
by_signs (pos a) (negsuc b) n = int_cmp_is (pos a) (negsuc b) Greater (omega (arith, ints))
by_signs (negsuc a) (pos b) n = int_cmp_is (negsuc a) (pos b) Less (omega (arith, ints))
by_signs (negsuc a) (negsuc b) n = absurd (n refl)

pub sign_tested : (n : ℕ) (z : ℤ) (l : List ℕ) → 0 < n → InRange n true z → l ≡ tag n z → leb 128 (get_or l (length l - 1) 0) ≡ is_negative z
sign_tested n z l h i e =
    let k : length l ≡ n = ap (λ l. length l) e ∙ long_tag n z in
    let at = ap (λ k. get_or l (k - 1) 0) k in
    ap (λ v. leb 128 v) at ∙ sign_top n z l (leb 128 (get_or l (n - 1) 0)) h i e (λ t. grind (arith, nat_tests)) (λ f. grind (arith, nat_tests))

pub no_tag : (n : ℕ) (z : ℤ) (l : List ℕ) → 0 < n → l ≡ tag n z → length l < 1 → ⊥
no_tag n z l h e k = let g : length l ≡ n = ap (λ l. length l) e ∙ long_tag n z in omega (arith, h, k, g)

-- ---- from the highest byte on
dropped : (k : ℕ) (l : List ℕ) → length l ≤ k → drop k l ≡ []
dropped zero [] h = refl
dropped (suc k) [] h = refl
dropped zero (x ∷ xs) h = absurd (omega (arith, h))
dropped (suc k) (x ∷ xs) h = dropped k xs (omega (arith, h))

pub all_dropped : (k : ℕ) (l r : List ℕ) → k ≡ min (length l) (length r) → length l ≡ length r → drop k l ≡ drop k r
all_dropped k l r e h = dropped k l (omega (arith, e, h)) ∙ sym (dropped k r (omega (arith, e, h)))

pub more_dropped : (k : ℕ) (l r : List ℕ) → 0 < k → k ≤ length l → k ≤ length r → get_or l (k - 1) 0 ≡ get_or r (k - 1) 0 → drop k l ≡ drop k r → drop (k - 1) l ≡ drop (k - 1) r
more_dropped k l r h i j e d =
    let n : suc (k - 1) ≡ k = omega (arith, h) in
    drop_at (k - 1) l 0 (omega (arith, h, i)) ∙ ap (λ b. b ∷ drop (suc (k - 1)) l) e ∙ ap (λ t. get_or r (k - 1) 0 ∷ t) (ap (λ m. drop m l) n ∙ d ∙ ap (λ m. drop m r) (sym n)) ∙ sym (drop_at (k - 1) r 0 (omega (arith, h, j)))

pub long_low : (n x y : ℕ) (l r : List ℕ) → l ≡ little_endian n x → r ≡ little_endian n y → length l ≡ length r
long_low n x y l r p q = ap (λ l. length l) p ∙ long n x ∙ sym (long n y) ∙ ap (λ r. length r) (sym q)

-- ---- tests of two signs
pub two_signs : (a b : Bool) → not (beq a b) ≡ true → a ≡ b → ⊥
two_signs true true e q = cc
two_signs true false e q = cc
two_signs false true e q = cc
two_signs false false e q = cc

pub one_sign : (a b : Bool) → not (beq a b) ≡ false → a ≡ b
one_sign true true e = refl
one_sign true false e = cc
one_sign false true e = cc
one_sign false false e = refl
