-- The laws of numbers of n bytes.
use Rattle.std.proofs.Common.{◌≡◌, ℕ, zero, suc, ℤ, pos, negsuc, ◌-◌, ◌*◌, ◌/◌, ◌%◌, ◌^◌, ◌<◌, ◌≤◌, cond, nat_lt, List, length, Some, None, refl, sym, ◌∙◌, ap, arith, ltb-true, le-ltb, lt-ltb, pow-suc}
use Rattle.std.proofs.lemmas.Option.{cond_some}
use Rattle.borsh_codec.specs.Codec.{Lawful}
use Rattle.borsh_codec.specs.Shapes.{little_endian, unsigned_encoding, unsigned, sign_bound, signed_encoding, signed}
use Rattle.borsh_codec.proofs.Laws.Exact.{by_encoding-lawful}

pub length-little : (n x : ℕ) → length (little_endian n x) ≡ n
length-little zero x = refl
length-little (suc n) x = ap suc (length-little n (x / 256))

below : (n x : ℕ) → x < 256 ^ suc n → x / 256 < 256 ^ n
below n x h = let e : 256 ^ suc n ≡ 256 ^ n * 256 = pow-suc 256 n in omega (arith, e)

pub little_apart : (n x y : ℕ) → x < 256 ^ n → y < 256 ^ n → little_endian n x ≡ little_endian n y → x ≡ y
little_apart zero x y p q e = omega arith
little_apart (suc n) x y p q e =
    let heads : x % 256 ≡ y % 256 = cc in
    let tails : little_endian n (x / 256) ≡ little_endian n (y / 256) = cc in
    let high : x / 256 ≡ y / 256 = little_apart n (x / 256) (y / 256) (below n x p) (below n y q) tails in
    omega arith

pub number_some : (n x : ℕ) (y : List ℕ) → unsigned_encoding n x ≡ Some y → (x < 256 ^ n) × (little_endian n x ≡ y)
unfolding unsigned_encoding
number_some n x y e =
    let p = cond_some (nat_lt x (256 ^ n)) (little_endian n x) y e in
    (ltb-true x (256 ^ n) p.0, p.1)

pub number_fits : (n x : ℕ) → x < 256 ^ n → unsigned_encoding n x ≡ Some (little_endian n x)
unfolding unsigned_encoding
number_fits n x h = ap (λ b. cond b (Some (little_endian n x)) None) (lt-ltb x (256 ^ n) h)

pub number_past : (n x : ℕ) → 256 ^ n ≤ x → unsigned_encoding n x ≡ None
unfolding unsigned_encoding
number_past n x h = ap (λ b. cond b (Some (little_endian n x)) None) (le-ltb x (256 ^ n) h)

pub length-number : (n x : ℕ) (y : List ℕ) → unsigned_encoding n x ≡ Some y → length y ≡ n
length-number n x y e = ap length (sym (number_some n x y e).1) ∙ length-little n x

pub number_apart : (n x y : ℕ) (z : List ℕ) → unsigned_encoding n x ≡ Some z → unsigned_encoding n y ≡ Some z → x ≡ y
number_apart n x y z p q =
    let a = number_some n x z p in
    let b = number_some n y z q in
    little_apart n x y a.0 b.0 (a.1 ∙ sym b.1)

pub unsigned-lawful : (n : ℕ) → Lawful ℕ (unsigned n)
unsigned-lawful n = by_encoding-lawful (unsigned_encoding n) n (length-number n) (number_apart n)

-- ---- numbers with a sign

pub length-signed : (n : ℕ) (z : ℤ) (y : List ℕ) → signed_encoding n z ≡ Some y → length y ≡ n
unfolding signed_encoding
length-signed n (pos x) y e = ap length (sym (cond_some (nat_lt x (sign_bound n)) (little_endian n x) y e).1) ∙ length-little n x
length-signed n (negsuc x) y e = ap length (sym (cond_some (nat_lt x (sign_bound n)) (little_endian n (256 ^ n - suc x)) y e).1) ∙ length-little n (256 ^ n - suc x)

pub signed_apart : (n : ℕ) (a b : ℤ) (z : List ℕ) → signed_encoding n a ≡ Some z → signed_encoding n b ≡ Some z → a ≡ b
unfolding signed_encoding
signed_apart n (pos x) (pos y) z p q =
    let a = cond_some (nat_lt x (sign_bound n)) (little_endian n x) z p in
    let b = cond_some (nat_lt y (sign_bound n)) (little_endian n y) z q in
    let f = ltb-true x (sign_bound n) a.0 in
    let g = ltb-true y (sign_bound n) b.0 in
    ap pos (little_apart n x y (omega arith) (omega arith) (a.1 ∙ sym b.1))
signed_apart n (pos x) (negsuc y) z p q =
    let a = cond_some (nat_lt x (sign_bound n)) (little_endian n x) z p in
    let b = cond_some (nat_lt y (sign_bound n)) (little_endian n (256 ^ n - suc y)) z q in
    let f = ltb-true x (sign_bound n) a.0 in
    let g = ltb-true y (sign_bound n) b.0 in
    let e = little_apart n x (256 ^ n - suc y) (omega arith) (omega arith) (a.1 ∙ sym b.1) in
    absurd (omega arith)
signed_apart n (negsuc x) (pos y) z p q =
    let a = cond_some (nat_lt x (sign_bound n)) (little_endian n (256 ^ n - suc x)) z p in
    let b = cond_some (nat_lt y (sign_bound n)) (little_endian n y) z q in
    let f = ltb-true x (sign_bound n) a.0 in
    let g = ltb-true y (sign_bound n) b.0 in
    let e = little_apart n (256 ^ n - suc x) y (omega arith) (omega arith) (a.1 ∙ sym b.1) in
    absurd (omega arith)
signed_apart n (negsuc x) (negsuc y) z p q =
    let a = cond_some (nat_lt x (sign_bound n)) (little_endian n (256 ^ n - suc x)) z p in
    let b = cond_some (nat_lt y (sign_bound n)) (little_endian n (256 ^ n - suc y)) z q in
    let f = ltb-true x (sign_bound n) a.0 in
    let g = ltb-true y (sign_bound n) b.0 in
    let e = little_apart n (256 ^ n - suc x) (256 ^ n - suc y) (omega arith) (omega arith) (a.1 ∙ sym b.1) in
    ap negsuc (omega arith)

pub signed-lawful : (n : ℕ) → Lawful ℤ (signed n)
signed-lawful n = by_encoding-lawful (signed_encoding n) n (length-signed n) (signed_apart n)

-- ---- two's complement: the bytes of the bits are those of the number

pub signed_bits : (n x : ℕ) (b : List ℕ) → unsigned_encoding n x ≡ Some b → x < sign_bound n → signed_encoding n (pos x) ≡ Some b
unfolding signed_encoding
signed_bits n x b e h = ap (λ c. cond c (Some (little_endian n x)) None) (lt-ltb x (sign_bound n) h) ∙ ap Some (number_some n x b e).1

pub signed_bits_high : (n x : ℕ) (b : List ℕ) → unsigned_encoding n x ≡ Some b → sign_bound n ≤ x → 256 ^ n ≡ 2 * sign_bound n → signed_encoding n (negsuc (256 ^ n - suc x)) ≡ Some b
unfolding signed_encoding
signed_bits_high n x b e h even =
    let p = number_some n x b e in
    let l : 256 ^ n - suc x < sign_bound n = (let f = p.0 in omega arith) in
    let m : 256 ^ n - suc (256 ^ n - suc x) ≡ x = (let f = p.0 in omega arith) in
    ap (λ c. cond c (Some (little_endian n (256 ^ n - suc (256 ^ n - suc x)))) None) (lt-ltb (256 ^ n - suc x) (sign_bound n) l) ∙ ap (λ z. Some (little_endian n z)) m ∙ ap Some p.1
