-- Floats, their bits and their texts.
use Rattle.std.proofs.{Common.{◌≡◌, inl, inr, ◌∷◌, ◌++◌, [], ℕ, ◌*◌, ◌^◌, ◌<◌, List, length, Bool, true, false, true≢false, Option, Some, None, refl, sym, ◌∙◌, ap, subst, arith, if◌then◌else◌, not, codes, T, from_bits, to_bits, option_map, MatchOption, MatchResult, Result, Ok, Err, IsTrue, IsFalse, Bor, bytes_eq, Contains}, lemmas.Slice.Eq.{bytes_eq-Decides}, lemmas.List.Elements.{Contains-append_right}}
use Rattle.std.specs.{Float.{Float, Format, nan, inf, fin, binary32, binary64, float_is_finite}, Float.Ieee.{top}, Float.Numeral.{scan_numeral}, Float.Parse.{parse_float, read_float}, Result.{result_ok}, Float.Numeral.{Parts, exponent_text, text_of}, Fmt.{sign_text}}
use lib.Ieee.{is_nan}
use lib.Ieee.Bits.{to_bits-of_bits}
use Rattle.json.specs.{Json.{Json, null, boolean, number, string, array, object}, Find.{as_number, as_str}, Print.{IsNumber}, Word.{after_number}}
use Rattle.json.proofs.Printed.Floats.{IsNumber-plain}
use Rattle.ryu.specs.Plain.{IsPlain, IsPlainNumber, word_of}
use Rattle.borsh_json.specs.{Printed.{IsMarked}, Table.{float_size, float_of, infinity_of, IsFloat}, Floats.{IsFloatText, IsNan, ReadsBack}}
use Rattle.borsh_walks.specs.Container.{little_endian}

-- ---- bits
twice_top : (f : Format) → 256 ^ float_size f ≡ 2 * top f
twice_top binary32 = refl
twice_top binary64 = refl

pub below_size : (f : Format) (n : ℕ) → n < 2 * top f → n < 256 ^ float_size f
below_size f n l = omega (arith, l, twice_top f)

not_nan : (t : Bool) → t ≡ false → T (not t)
not_nan true e = true≢false e
not_nan false e = tt

pub not_false : (t : Bool) → not t ≡ true → t ≡ false
not_false true e = absurd (true≢false (sym e))
not_false false e = refl

bits_back : (f : Format) (b : ℕ) (v : Float) → b < 256 ^ float_size f → from_bits f b ≡ v → is_nan v ≡ false → to_bits f v ≡ b
bits_back f b v l p e = ap (λ v. to_bits f v) (sym p) ∙ to_bits-of_bits f b (omega (arith, l, twice_top f)) (not_nan (is_nan (from_bits f b)) (ap (λ v. is_nan v) p ∙ e))

-- a float has one encoding
pub float_one : (f : Format) {v w : Float} {a b : List ℕ} → v ≡ w → IsFloat f v a → IsFloat f w b → a ≡ b
float_one f {v = v} {w = w} e p q =
    let i = bits_back f p.0 v p.2 p.3 p.4 in
    let k = bits_back f q.0 w q.2 q.3 q.4 in
    p.1 ∙ ap (λ b. little_endian (float_size f) b) (sym i ∙ ap (λ v. to_bits f v) e ∙ k) ∙ sym q.1

-- floats of one size are of one format
pub format_one : (n : ℕ) (a b : Format) → n ≡ float_size a → n ≡ float_size b → a ≡ b
format_one n binary32 binary32 p q = refl
format_one n binary32 binary64 p q = absurd (omega (arith, p, q))
format_one n binary64 binary32 p q = absurd (omega (arith, p, q))
format_one n binary64 binary64 p q = refl

-- ---- texts
-- what is printed of a float that is no NaN reads back as it
pub reads_back : (f : Format) (v : Float) (s : List ℕ) → is_nan v ≡ false → parse_float f s ≡ Some v → (IsTrue (float_is_finite v) → IsPlainNumber s) → (IsFalse (float_is_finite v) → s ≡ word_of v) → ReadsBack f v s
unfolding is_nan float_is_finite
reads_back f nan s n p a b = absurd (true≢false n)
reads_back f (inf false) s n p a b = (p, inr (ap (λ s. infinity_of s) (b refl)))
reads_back f (inf true) s n p a b = (p, inr (ap (λ s. infinity_of s) (b refl)))
reads_back f (fin t m e) s n p a b = (p, inl (IsNumber-plain s (a refl)))

-- a numeral that doesn't read as a whole number has a point or an exponent
marked_parts : (p : Parts) → IsPlain p → IsMarked (text_of p)
marked_parts p h = by p.point refl p.exponent refl
  where
    by : (b : Bool) → p.point ≡ b → (e : List ℕ) → p.exponent ≡ e → IsMarked (text_of p)
    by true q e r =
        let tail = exponent_text p.exponent_negative p.exponent in
        inl (subst (λ b. Contains (p.whole ++ ((if b then 46 ∷ p.fraction else []) ++ tail)) 46) (sym q) (Contains-append_right p.whole (46 ∷ (p.fraction ++ tail)) 46 (0, omega arith, refl)))
    by false q [] r = absurd (let m = h.marked q in let l = ap (λ l. length l) r in omega (arith, m, l))
    by false q (d ∷ ds) r =
        let tail = 101 ∷ (sign_text p.exponent_negative ++ d ∷ ds) in
        inr (subst (λ b. Contains (p.whole ++ ((if b then 46 ∷ p.fraction else []) ++ exponent_text p.exponent_negative p.exponent)) 101) (sym q)
        (subst (λ e. Contains (p.whole ++ exponent_text p.exponent_negative e) 101) (sym r) (Contains-append_right p.whole tail 101 (0, omega arith, refl))))

marked_behind : (front s : List ℕ) → IsMarked s → IsMarked (front ++ s)
marked_behind front s (inl h) = inl (Contains-append_right front s 46 h)
marked_behind front s (inr h) = inr (Contains-append_right front s 101 h)

marked_number : (s : List ℕ) → IsPlainNumber s → IsMarked s
marked_number s h = subst IsMarked (sym h.2) (marked_behind (sign_text h.0) (text_of h.1) (marked_parts h.1 h.3))

-- the words of the infinities are no numbers
inf_no_number : IsNumber (codes "inf") → ⊥
unfolding after_number
inf_no_number e = cc

minus_inf_no_number : IsNumber (codes "-inf") → ⊥
unfolding after_number
minus_inf_no_number e = cc

-- of a float that is no NaN the text that is a number has one
pub marked : (v : Float) (s : List ℕ) → is_nan v ≡ false → (IsTrue (float_is_finite v) → IsPlainNumber s) → (IsFalse (float_is_finite v) → s ≡ word_of v) → IsNumber s → IsMarked s
unfolding is_nan float_is_finite
marked nan s n a b i = absurd (true≢false n)
marked (inf false) s n a b i = absurd (inf_no_number (subst IsNumber (b refl) i))
marked (inf true) s n a b i = absurd (minus_inf_no_number (subst IsNumber (b refl) i))
marked (fin t m e) s n a b i = marked_number s (a refl)

pub shortest_is : (f : Format) (bs : List ℕ) (bits : ℕ) (v : Float) (r : Option (Bor (List ℕ))) → bs ≡ little_endian (float_size f) bits → bits < 256 ^ float_size f → v ≡ from_bits f bits → MatchOption r (is_nan v ≡ true) (λ s. (is_nan v ≡ false) × ReadsBack f v s.now) → MatchOption r (IsNan f bs) (λ s. IsFloatText f bs s.now)
shortest_is f bs bits v None e l p h = (bits, e, l, ap (λ v. is_nan v) (sym p) ∙ h)
shortest_is f bs bits v (Some s) e l p h = (v, (bits, e, l, sym p, h.0), h.1)

pub shortest_8 : (f : Format) (bs : List ℕ) (bits : ℕ) (v : Float) (r : Option (Bor (List ℕ))) → length bs ≡ 8 → length bs ≡ float_size f → bs ≡ little_endian 8 bits → bits < 256 ^ 8 → v ≡ from_bits binary64 bits → MatchOption r (is_nan v ≡ true) (λ s. (is_nan v ≡ false) × ReadsBack binary64 v s.now) → MatchOption r (IsNan f bs) (λ s. IsFloatText f bs s.now)
shortest_8 binary32 bs bits v r n l e b p h = absurd (omega (arith, n, l))
shortest_8 binary64 bs bits v r n l e b p h = shortest_is binary64 bs bits v r e b p h

-- the words of the infinities
inf_read : (f : Format) → parse_float f (codes "inf") ≡ Some (inf false)
unfolding read_float scan_numeral
inf_read f = refl

minus_inf_read : (f : Format) → parse_float f (codes "-inf") ≡ Some (inf true)
unfolding read_float scan_numeral
minus_inf_read f = refl

pub word_read : (f : Format) (s : List ℕ) → bytes_eq s (codes "inf") ≡ true → parse_float f s ≡ infinity_of s
word_read f s e = subst (λ s. parse_float f s ≡ infinity_of s) (sym ((bytes_eq-Decides s (codes "inf")).0 e)) (inf_read f)

pub minus_word_read : (f : Format) (s : List ℕ) → bytes_eq s (codes "-inf") ≡ true → parse_float f s ≡ infinity_of s
minus_word_read f s e = subst (λ s. parse_float f s ≡ infinity_of s) (sym ((bytes_eq-Decides s (codes "-inf")).0 e)) (minus_inf_read f)

-- ---- reading
pub parsed : {A E : Type 0} (val : A → Float) (f : Format) (s : List ℕ) (r : Result A E) → MatchResult r (λ x. parse_float f s ≡ Some (val x)) (λ _. parse_float f s ≡ None) → option_map val (result_ok r) ≡ parse_float f s
parsed val f s (Ok x) e = sym e
parsed val f s (Err z) e = sym e

-- JSON that is neither a number nor a text is no float
pub no_float : (f : Format) (j : Json) → as_number j ≡ None → as_str j ≡ None → float_of f j ≡ None
no_float f null n s = refl
no_float f (boolean b) n s = refl
no_float f (number t) n s = cc
no_float f (string t) n s = cc
no_float f (array js) n s = refl
no_float f (object ms) n s = refl

pub number_float : (f : Format) (j : Json) (s : List ℕ) → as_number j ≡ Some s → float_of f j ≡ parse_float f s
number_float f (number t) s e = (let q : t ≡ s = cc in ap (λ t. parse_float f t) q)
number_float f json s e = cc

pub word_float : (f : Format) (j : Json) (s : List ℕ) → as_str j ≡ Some s → float_of f j ≡ infinity_of s
word_float f (string t) s e = (let q : t ≡ s = cc in ap (λ t. infinity_of t) q)
word_float f json s e = cc
