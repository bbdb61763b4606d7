-- Whole numbers and the bytes that encode them.
use Rattle.std.proofs.{Common.{◌≡◌, inl, inr, ℕ, suc, zero, ◌+◌, ◌-◌, ◌*◌, ◌%◌, ◌^◌, ◌<◌, ◌≤◌, Bool, true, false, List, [], ◌∷◌, length, map, drop, get_or, refl, sym, ◌∙◌, ap, subst, arith, pow-suc, length-drop, ℤ, pos, negsuc, All}, lemmas.Int.{to_z-of_z}, lemmas.Bool.{cases_lt}}
use Rattle.std.specs.Int.{cast_signed, w128}
use Rattle.borsh_walks.specs.Container.{little_endian}
use Rattle.borsh_values.specs.Tags.{byte_as, number_of}
use Rattle.borsh_json.specs.{Table.{InRange}, Ranks.{rank_of}, Integers.{IsEncoded, signed_as}}
use Rattle.borsh_json.proofs.RepresentsLaws.{power_most}
use Rattle.borsh_values.proofs.TagLaws.{Bytes, value_written, value_small, value_under, drop_bytes, drop_at}

tail_bytes : (b : ℕ) (bs : List ℕ) → Bytes (b ∷ bs) → Bytes bs
tail_bytes b bs f = λ i h. f (suc i) (omega arith)

more_bytes : (b : ℕ) (bs : List ℕ) → b < 256 → Bytes bs → Bytes (b ∷ bs)
more_bytes b bs h f = each
  where
    each : (i : ℕ) → i < length (b ∷ bs) → get_or (b ∷ bs) i 0 < 256
    each zero l = h
    each (suc i) l = f i (omega arith)

-- ---- bytes and their complements
turned_small : (neg : Bool) (b : ℕ) → b < 256 → byte_as neg b < 256
turned_small true b h = omega arith
turned_small false b h = h

turned_bytes : (neg : Bool) (bs : List ℕ) → Bytes bs → Bytes (map (byte_as neg) bs)
turned_bytes neg [] f = λ i h. absurd (omega arith)
turned_bytes neg (b ∷ bs) f = more_bytes (byte_as neg b) (map (byte_as neg) bs) (turned_small neg b (f 0 (omega arith))) (turned_bytes neg bs (tail_bytes b bs f))

turned_length : (neg : Bool) (bs : List ℕ) → length (map (byte_as neg) bs) ≡ length bs
turned_length neg [] = refl
turned_length neg (b ∷ bs) = ap suc (turned_length neg bs)

turned_at : (bs : List ℕ) (i : ℕ) → i < length bs → get_or (map (byte_as true) bs) i 0 ≡ 255 - get_or bs i 0
turned_at [] i h = absurd (omega arith)
turned_at (b ∷ bs) zero h = refl
turned_at (b ∷ bs) (suc i) h = turned_at bs i (omega arith)

unturned : (bs : List ℕ) → map (byte_as false) bs ≡ bs
unturned [] = refl
unturned (b ∷ bs) = ap (λ l. b ∷ l) (unturned bs)

turned_back : (bs : List ℕ) → Bytes bs → map (λ b. 255 - b) (map (byte_as true) bs) ≡ bs
turned_back [] f = refl
turned_back (b ∷ bs) f =
    let h : b < 256 = f 0 (omega arith) in
    let e : 255 - (255 - b) ≡ b = omega arith in
    ap (λ c. c ∷ map (λ b. 255 - b) (map (byte_as true) bs)) e ∙ ap (λ l. b ∷ l) (turned_back bs (tail_bytes b bs f))

-- ---- the loop
pub decoded_more : (neg : Bool) (bs : List ℕ) (p q v b : ℕ) → Bytes bs → length bs ≤ 16 → p < length bs → q ≡ suc p → v ≡ number_of (map (byte_as neg) (drop q bs)) → b ≡ byte_as neg (get_or bs p 0) → (v * 256 % 2 ^ 128 + b) % 2 ^ 128 ≡ number_of (map (byte_as neg) (drop p bs))
decoded_more neg bs p q v b f short h e is at =
    let all = map (byte_as neg) (drop p bs) in
    let d = drop_at p bs 0 h in
    let w : number_of all ≡ number_of (map (byte_as neg) (drop (suc p) bs)) * 256 + byte_as neg (get_or bs p 0) = ap (λ (l : List ℕ). number_of (map (byte_as neg) l)) d in
    let x : v ≡ number_of (map (byte_as neg) (drop (suc p) bs)) = is ∙ ap (λ k. number_of (map (byte_as neg) (drop k bs))) e in
    let l = turned_length neg (drop p bs) in
    let k = length-drop p bs in
    let small = value_under 16 all (turned_bytes neg (drop p bs) (drop_bytes p bs f)) (omega (arith, l, k)) in
    let same : number_of all ≡ v * 256 + b = omega (arith, w, x, at) in
    omega (arith, same, small)

-- ---- what was decoded

half_value : (bs : List ℕ) → Bytes bs → get_or bs (length bs - 1) 0 < 128 → 2 * number_of bs < 256 ^ length bs
half_value [] f h = omega arith
half_value (b ∷ []) f h = let p = pow-suc 256 0 in let k : b < 128 = h in omega (arith, p, k)
half_value (b ∷ c ∷ cs) f h =
    let e : length (b ∷ c ∷ cs) - 1 ≡ suc (length (c ∷ cs) - 1) = omega arith in
    let r = half_value (c ∷ cs) (tail_bytes b (c ∷ cs) f) (subst (λ k. get_or (b ∷ c ∷ cs) k 0 < 128) e h) in
    let s : b < 256 = f 0 (omega arith) in
    let p = pow-suc 256 (length cs) in
    let q = pow-suc 256 (suc (length cs)) in
    omega (arith, r, s, p, q)

low_back : (bs : List ℕ) (n v : ℕ) → Bytes bs → n ≡ length bs → v ≡ number_of bs → little_endian n v ≡ bs
low_back bs n v f l e = ap (λ n. little_endian n v) l ∙ ap (λ v. little_endian (length bs) v) e ∙ value_written bs f

turned_top : (bs : List ℕ) → Bytes bs → 128 ≤ get_or bs (length bs - 1) 0 → get_or (map (byte_as true) bs) (length (map (byte_as true) bs) - 1) 0 < 128
turned_top [] f h = absurd (omega arith)
turned_top (b ∷ bs) f h =
    let l = turned_length true (b ∷ bs) in
    let i = length (b ∷ bs) - 1 in
    let e = ap (λ k. get_or (map (byte_as true) (b ∷ bs)) (k - 1) 0) l ∙ turned_at (b ∷ bs) i (omega arith) in
    let s : get_or (b ∷ bs) i 0 < 256 = f i (omega arith) in
    omega (arith, e, s, h)

pub decoded : (signed neg : Bool) (bs : List ℕ) (v : ℕ) → Bytes bs → (neg ≡ true → (signed ≡ true) × (128 ≤ get_or bs (length bs - 1) 0)) → (neg ≡ false → signed ≡ true → get_or bs (length bs - 1) 0 < 128) → v ≡ number_of (map (byte_as neg) bs) → IsEncoded (length bs) signed (signed_as neg v) bs
decoded false false bs v f n p e =
    let same = e ∙ ap (λ l. number_of l) (unturned bs) in
    (sym (low_back bs (length bs) v f refl same), subst (λ x. x < 256 ^ length bs) (sym same) (value_small bs f))
decoded false true bs v f n p e = let q = (n refl).0 in cc
decoded true false bs v f n p e =
    let same = e ∙ ap (λ l. number_of l) (unturned bs) in
    (sym (low_back bs (length bs) v f refl same), subst (λ x. 2 * x < 256 ^ length bs) (sym same) (half_value bs f (p refl refl)))
decoded true true bs v f n p e =
    let cs = map (byte_as true) bs in
    let l = turned_length true bs in
    let g = turned_bytes true bs f in (
      sym (ap (λ l. map (λ b. 255 - b) l) (low_back cs (length bs) v g (sym l) e) ∙ turned_back bs f),
      subst (λ x. 2 * x < 256 ^ length bs) (sym e) (subst (λ k. 2 * number_of cs < 256 ^ k) l (half_value cs g (turned_top bs f (n refl).1))),
    )

-- ---- numbers as they are printed and ordered
pub negative_cast : (n : ℕ) (signed : Bool) (m : ℕ) → n ≤ 16 → InRange n signed (negsuc m) → cast_signed w128 (2 ^ 128 - 1 - m) ≡ negsuc m
negative_cast n false m h r = absurd r
negative_cast n true m h r =
    let p = power_most n h in
    let e : 2 ^ 128 - 1 - m ≡ 2 ^ 128 - suc m = omega arith in
    ap (λ x. cast_signed w128 x) e ∙ to_z-of_z w128 (negsuc m) (record { sfits = omega arith })

pub negative_rank : (n : ℕ) (signed : Bool) (m : ℕ) → n ≤ 16 → InRange n signed (negsuc m) → (2 ^ 127 - 1 + (2 ^ 128 - m)) % 2 ^ 128 ≡ rank_of signed (negsuc m)
negative_rank n false m h r = absurd r
negative_rank n true m h r = let p = power_most n h in omega arith

pub positive_rank : (n m : ℕ) → n ≤ 16 → InRange n true (pos m) → (2 ^ 127 + m) % 2 ^ 128 ≡ 2 ^ 127 + m
positive_rank n m h r = let p = power_most n h in omega arith

-- bytes are those of a number that has as many
pub number_there : (signed : Bool) (n : ℕ) (bs : List ℕ) → length bs ≡ n → All (λ b. b < 256) bs → (z : ℤ) × IsEncoded n signed z bs
number_there signed n bs e small = subst (λ n. (z : ℤ) × IsEncoded n signed z bs) e (by signed)
  where
    f : Bytes bs
    f i h = small i 0 h

    by : (signed : Bool) → (z : ℤ) × IsEncoded (length bs) signed z bs
    by false = (pos (number_of (map (byte_as false) bs)), decoded false false bs (number_of (map (byte_as false) bs)) f (λ t. cc) (λ t u. cc) refl)
    by true = elim (cases_lt (get_or bs (length bs - 1) 0) 128) [
      | inl h ↦ (pos (number_of (map (byte_as false) bs)), decoded true false bs (number_of (map (byte_as false) bs)) f (λ t. cc) (λ t u. h) refl)
      | inr h ↦ (negsuc (number_of (map (byte_as true) bs)), decoded true true bs (number_of (map (byte_as true) bs)) f (λ t. (refl, omega arith)) (λ t. cc) refl)
    ]
