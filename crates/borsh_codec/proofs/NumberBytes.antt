-- The bytes that `to_le_bytes` and `from_le_bytes` speak of are those of a number's encoding, at any width.
use Rattle.std.proofs.Common.{◌≡◌, ℕ, zero, suc, ◌+◌, ◌*◌, ◌/◌, ◌%◌, ◌^◌, ◌<◌, ◌≤◌, List, [], ◌∷◌, ◌++◌, length, get_or, Some, ℤ, negsuc, ◌-◌, to_z, of_z, SFits, ⊎_elim, refl, sym, ◌∙◌, ap, arith, pow-suc}
use mir.Val.{bits, hbits}
use Rattle.std.specs.Int.{Width, bytes_low_first, byte_worth, sum_through}
use Rattle.std.proofs.lemmas.Int.{to_z_pos, to_z-of_z}
use Rattle.std.proofs.lemmas.Bool.{cases_lt}
use Rattle.std.proofs.Math.Facts.{to_z-neg}
use native.Mathlib.Nat.{div-div-eq-div-mul, div-one, mul_assoc, mul_comm}
use Rattle.borsh_codec.specs.Shapes.{little_endian, unsigned_encoding, sign_bound, signed_encoding, append_encodings, concat_encodings}
use Rattle.borsh_codec.proofs.Laws.Lists.{joined_is}
use Rattle.borsh_codec.proofs.Laws.Numbers.{number_fits, number_some, signed_bits, signed_bits_high}

-- ---- to bytes

little_from : (i k n : ℕ) → little_endian k (n / 256 ^ i) ≡ bytes_low_first i k n
little_from i zero n = refl
little_from zero (suc k) n =
    let e : n / 256 ^ 0 ≡ n = div-one n in
    let f : little_endian k (n / 256 ^ 0 / 256) ≡ bytes_low_first 1 k n = ap (λ z. little_endian k (z / 256)) e ∙ little_from 1 k n in
    let h : n / 256 ^ 0 % 256 ≡ n % 256 = ap (λ z. z % 256) e in
    cc
little_from (suc i) (suc k) n =
    let e : n / 256 ^ suc i / 256 ≡ n / 256 ^ suc (suc i) = div-div-eq-div-mul n (256 ^ suc i) 256 ∙ ap (λ z. n / z) (sym (pow-suc 256 (suc i))) in
    let f : little_endian k (n / 256 ^ suc i / 256) ≡ bytes_low_first (suc (suc i)) k n = ap (little_endian k) e ∙ little_from (suc (suc i)) k n in
    cc

-- a number of k bytes, written
pub bytes_of : (k n : ℕ) {x : List ℕ} → n < 256 ^ k → x ≡ bytes_low_first 0 k n → unsigned_encoding k n ≡ Some x
bytes_of k n fits e = number_fits k n fits ∙ ap Some (ap (little_endian k) (sym (div-one n)) ∙ little_from 0 k n ∙ sym e)

-- a number of one byte, written
pub byte_of : (n : ℕ) → n < 256 → unsigned_encoding 1 n ≡ Some (n ∷ [])
byte_of n fits = bytes_of 1 n fits (let e : n % 256 ≡ n = omega arith in cc)

little_split : (a b r q : ℕ) → r < 256 ^ a → little_endian (a + b) (r + 256 ^ a * q) ≡ little_endian a r ++ little_endian b q
little_split zero b r q h =
    let k : 0 + b ≡ b = omega arith in
    let e : r + 256 ^ 0 * q ≡ q = omega (arith, h) in
    ap (λ j. little_endian j (r + 256 ^ 0 * q)) k ∙ ap (little_endian b) e
little_split (suc a) b r q h =
    let k : suc a + b ≡ suc (a + b) = omega arith in
    let p : 256 ^ suc a ≡ 256 ^ a * 256 = pow-suc 256 a in
    let t : 256 ^ suc a * q ≡ 256 * (256 ^ a * q) = ap (λ z. z * q) (p ∙ mul_comm (256 ^ a) 256) ∙ mul_assoc 256 (256 ^ a) q in
    let low : (r + 256 ^ suc a * q) % 256 ≡ r % 256 = omega (arith, t) in
    let high : (r + 256 ^ suc a * q) / 256 ≡ r / 256 + 256 ^ a * q = omega (arith, t) in
    let rest : little_endian (a + b) ((r + 256 ^ suc a * q) / 256) ≡ little_endian a (r / 256) ++ little_endian b q = ap (little_endian (a + b)) high ∙ little_split a b (r / 256) q (omega (arith, h, p)) in
    ap (λ j. little_endian j (r + 256 ^ suc a * q)) k ∙ cc

-- the bytes of a number are those of its low part and then those of its high part
pub unsigned_parts : (a b r q n : ℕ) → r < 256 ^ a → q < 256 ^ b → n < 256 ^ (a + b) → r + 256 ^ a * q ≡ n → append_encodings (unsigned_encoding a r) (unsigned_encoding b q) ≡ unsigned_encoding (a + b) n
unsigned_parts a b r q n low high fits e =
    joined_is (unsigned_encoding a r) (unsigned_encoding b q) (little_endian a r) (little_endian b q) (number_fits a r low) (number_fits b q high)
    ∙ ap Some (sym (little_split a b r q low) ∙ ap (little_endian (a + b)) e)
    ∙ sym (number_fits (a + b) n fits)

-- bytes, written one after another
pub bytes_joined : (bytes : List ℕ) → ((i : ℕ) → get_or bytes i 0 < 256) → concat_encodings (unsigned_encoding 1) bytes ≡ Some bytes
bytes_joined [] fit = refl
bytes_joined (b ∷ bytes) fit = rw (byte_of b (fit 0), bytes_joined bytes (λ i. fit (suc i))) refl

-- ---- from bytes

-- the number of these bytes, the lowest first
abbrev pub number_from : List ℕ → ℕ
number_from [] = 0
number_from (b ∷ bytes) = b + 256 * number_from bytes

abbrev worth : List ℕ → ℕ → ℕ
worth bytes k = sum_through (λ i. byte_worth i (get_or bytes i 0)) k

one_more : (b : ℕ) (bytes : List ℕ) (k : ℕ) → worth (b ∷ bytes) (suc k) ≡ b + 256 * worth bytes k
one_more b bytes zero = omega arith
one_more b bytes (suc k) =
    let p : 256 ^ suc (suc k) ≡ 256 ^ suc k * 256 = pow-suc 256 (suc k) in
    let x = get_or bytes (suc k) 0 in
    let e : x * 256 ^ suc (suc k) ≡ (x * 256 ^ suc k) * 256 = ap (λ z. x * z) p ∙ sym (mul_assoc x (256 ^ suc k) 256) in
    let h = one_more b bytes k in
    omega (arith, e, h)

number_from-worth : (bytes : List ℕ) (k : ℕ) → length bytes ≡ suc k → worth bytes k ≡ number_from bytes
number_from-worth [] k l = absurd (omega arith)
number_from-worth (b ∷ []) zero l = omega arith
number_from-worth (b ∷ c ∷ bytes) zero l = absurd (omega arith)
number_from-worth (b ∷ bytes) (suc k) l = one_more b bytes k ∙ ap (λ z. b + 256 * z) (number_from-worth bytes k (omega arith))

little-number_from : (bytes : List ℕ) → ((i : ℕ) → get_or bytes i 0 < 256) → (number_from bytes < 256 ^ length bytes) × (little_endian (length bytes) (number_from bytes) ≡ bytes)
little-number_from [] small = (omega arith, refl)
little-number_from (b ∷ bytes) small =
    let h = little-number_from bytes (λ i. small (suc i)) in
    let s : b < 256 = small 0 in
    let low : (b + 256 * number_from bytes) % 256 ≡ b = omega arith in
    let high : (b + 256 * number_from bytes) / 256 ≡ number_from bytes = omega arith in
    let p : 256 ^ suc (length bytes) ≡ 256 ^ length bytes * 256 = pow-suc 256 (length bytes) in
    (omega (arith, h.0, p), (let t : little_endian (length bytes) ((b + 256 * number_from bytes) / 256) ≡ bytes = ap (little_endian (length bytes)) high ∙ h.1 in cc))

-- a number of k + 1 bytes, read
pub number_of : (k : ℕ) (bytes : List ℕ) (n : ℕ) → length bytes ≡ suc k → ((i : ℕ) → get_or bytes i 0 < 256) → n ≡ sum_through (λ i. byte_worth i (get_or bytes i 0)) k → unsigned_encoding (suc k) n ≡ Some bytes
number_of k bytes n l small e =
    let h = little-number_from bytes small in
    let v : n ≡ number_from bytes = e ∙ number_from-worth bytes k l in
    ap (λ z. unsigned_encoding (suc k) z) v ∙ ap (λ z. unsigned_encoding z (number_from bytes)) (sym l) ∙ number_fits (length bytes) (number_from bytes) h.0 ∙ ap Some h.1

-- ---- numbers with a sign

-- the bytes of the bits are those of the number
pub signed_of : (w : Width) (n x : ℕ) {b : List ℕ} → 256 ^ n ≡ 2 ^ bits w → sign_bound n ≡ 2 ^ hbits w → 256 ^ n ≡ 2 * sign_bound n → unsigned_encoding n x ≡ Some b → signed_encoding n (to_z w x) ≡ Some b
signed_of w n x {b = b} whole low even e =
    let fits = (number_some n x b e).0 in
    ⊎_elim
    (λ (h : x < 2 ^ hbits w). ap (signed_encoding n) (to_z_pos w x h) ∙ signed_bits n x b e (omega (arith, h, low)))
    (λ (h : 2 ^ hbits w ≤ x).
    let m : x ≡ 2 ^ bits w - suc (256 ^ n - suc x) = omega (arith, fits, whole) in
    let f : to_z w x ≡ negsuc (256 ^ n - suc x) = ap (to_z w) m ∙ to_z-neg w (256 ^ n - suc x) (omega (arith, fits, whole, even, low, h)) in
    ap (signed_encoding n) f ∙ signed_bits_high n x b e (omega (arith, h, low)) even)
    (cases_lt x (2 ^ hbits w))

-- the same, where the number is given
pub signed_by_bits : (w : Width) (n : ℕ) (z : ℤ) {b : List ℕ} → 256 ^ n ≡ 2 ^ bits w → sign_bound n ≡ 2 ^ hbits w → 256 ^ n ≡ 2 * sign_bound n → SFits w z → unsigned_encoding n (of_z w z) ≡ Some b → signed_encoding n z ≡ Some b
signed_by_bits w n z whole low even f e = ap (signed_encoding n) (sym (to_z-of_z w z f)) ∙ signed_of w n (of_z w z) whole low even e
