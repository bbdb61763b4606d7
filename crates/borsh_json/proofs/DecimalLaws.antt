-- Texts without a zero in front are what their numbers print.
use Rattle.std.proofs.{Common.{◌≡◌, ◌⊎◌, inl, inr, ℕ, suc, zero, ◌+◌, ◌*◌, ◌/◌, ◌%◌, ◌<◌, ◌≤◌, ◌^◌, List, [], ◌∷◌, ◌++◌, drop, Bool, true, false, cond, eqb, refl, sym, ◌∙◌, ap, subst, arith, append_assoc, ℤ, pos, negsuc, neg_ℤ, Option, Result, Ok, Err, MatchOption, FitsSigned, append-nil}, lemmas.Fmt.{decimal_is_IsNumeral_wide, decimal_digit, decimal_step_wide, decimal_by_steps_wide, parse-decimal_wide}, lemmas.Result.{Ok-from_Ok_iff}, lemmas.Str.{digit_value_digit}, lemmas.Str.Parse.{digit_from_value, numerals_by_value, tells_digits, parse_signed_minus, parse_signed_digits}}
use Rattle.std.specs.{Fmt.{decimal, signed_decimal}, Char.{digit_value}, Int.{w128}, Result.{result_ok}, Str.Parse.{AllDigits, IsNumeral, digits_value, digits_value_after, signed_digits_value, without_leading_plus, without_leading_sign, ParsesUnsigned, ParsesSigned}}
use Rattle.borsh_json.specs.Ranks.{IsLeading, HasNoLeadingZero}

-- ---- how printed numbers begin
abbrev Plain : List ℕ → Type 0
Plain s = (s ≡ 48 ∷ []) ⊎ ((c : ℕ) × (cs : List ℕ) × IsLeading c × ((s ≡ c ∷ cs) ⊎ (s ≡ 45 ∷ c ∷ cs)))

plain_is : (s : List ℕ) → HasNoLeadingZero s → Plain s
plain_is [] h = absurd (omega (arith, h.0))
plain_is (c ∷ []) (h, inl p) = inl (ap (λ x. x ∷ []) p.0)
plain_is (c ∷ d ∷ cs) (h, inl p) = absurd (omega (arith, p.1))
plain_is (c ∷ cs) (h, inr (inl p)) = inr (c, cs, p, inl refl)
plain_is (c ∷ []) (h, inr (inr p)) = absurd (omega (arith, p.1))
plain_is (c ∷ d ∷ cs) (h, inr (inr p)) = inr (d, cs, p.2, inr (ap (λ x. x ∷ d ∷ cs) p.0))

is_plain : (s : List ℕ) → Plain s → HasNoLeadingZero s
is_plain s (inl e) = subst HasNoLeadingZero (sym e) (omega arith, inl (refl, refl))
is_plain s (inr (c, cs, h, inl e)) = subst HasNoLeadingZero (sym e) (omega arith, inr (inl h))
is_plain s (inr (c, cs, h, inr e)) = subst HasNoLeadingZero (sym e) (omega arith, inr (inr (refl, omega arith, h)))

-- ---- what digits behind others write
after_more : (n : ℕ) (cs : List ℕ) → n ≤ digits_value_after 10 n cs
after_more n [] = omega arith
after_more n (c ∷ cs) = omega (arith, after_more (n * 10 + digit_value c) cs)

after_is : (n : ℕ) (cs : List ℕ) → 0 < n → AllDigits 10 cs → digits_value_after 10 n cs < 10 ^ 64 → decimal (digits_value_after 10 n cs) ≡ decimal n ++ cs
after_is n [] h d l = sym (append-nil (decimal n))
after_is n (c ∷ cs) h d l =
    let v = digit_value c in
    let m = n * 10 + v in
    let k = digit_from_value c d.0 in
    let g = digit_value_digit c k in
    let few : m < 10 ^ 64 = omega (arith, after_more m cs, l) in
    let step = decimal_step_wide m (omega arith) few in
    let q : m / 10 ≡ n = omega (arith, d.0) in
    let r : 48 + m % 10 ≡ c = omega (arith, d.0) in
    let one : decimal m ≡ decimal n ++ c ∷ [] = step ∙ ap (λ x. decimal x ++ (48 + m % 10) ∷ []) q ∙ ap (λ x. decimal n ++ x ∷ []) r in
    after_is m cs (omega arith) d.1 l ∙ ap (λ l. l ++ cs) one ∙ append_assoc (decimal n) (c ∷ []) cs

leading_value : (c : ℕ) → IsLeading c → digit_value c + 48 ≡ c
leading_value c h = digit_value_digit c (omega (arith, h.0), h.1)

-- digits that begin with one other than 0
digits_are : (c : ℕ) (cs : List ℕ) → IsLeading c → AllDigits 10 (c ∷ cs) → digits_value 10 (c ∷ cs) < 10 ^ 64 → decimal (digits_value 10 (c ∷ cs)) ≡ c ∷ cs
digits_are c cs h d l =
    let v = leading_value c h in
    let z : 0 * 10 + digit_value c ≡ digit_value c = omega arith in
    let e : digits_value_after 10 (digit_value c) cs ≡ digits_value 10 (c ∷ cs) = ap (λ n. digits_value_after 10 n cs) (sym z) in
    let o : decimal (digit_value c) ≡ c ∷ [] = decimal_digit (digit_value c) d.0 ∙ ap (λ x. x ∷ []) (let q : 48 + digit_value c ≡ c = omega (arith, v) in q) in
    ap (λ n. decimal n) (sym e) ∙ after_is (digit_value c) cs (omega (arith, v, h.0)) d.1 (subst (λ n. n < 10 ^ 64) (sym e) l) ∙ ap (λ l. l ++ cs) o

value_some : (c : ℕ) (cs : List ℕ) → IsLeading c → 0 < digits_value 10 (c ∷ cs)
value_some c cs h = let v = leading_value c h in let m = after_more (0 * 10 + digit_value c) cs in omega (arith, v, m, h.0)

-- ---- how printed numbers begin
abbrev Begins : ℕ → List ℕ → Type 0
Begins n ds = 0 < n → (c : ℕ) × (cs : List ℕ) × IsLeading c × (ds ≡ c ∷ cs)

begins : (n : ℕ) → n < 10 ^ 64 → Begins n (decimal n)
begins n h = decimal_by_steps_wide Begins
    (λ n d p. (48 + n, [], (omega arith, omega arith), refl))
    (λ n ds t ih p. let r = ih (omega arith) in (r.0, r.1 ++ (48 + n % 10) ∷ [], r.2, ap (λ l. l ++ (48 + n % 10) ∷ []) r.3))
    n h

abbrev IsShort : ℤ → Type 0
IsShort (pos n) = n < 10 ^ 60
IsShort (negsuc n) = n < 10 ^ 60

pub short : (z : ℤ) → FitsSigned w128 z → IsShort z
short (pos n) f = omega (arith, f.sfits)
short (negsuc n) f = omega (arith, f.sfits)

pub unsigned_plain : (n : ℕ) (s : List ℕ) → n < 10 ^ 60 → s ≡ decimal n → HasNoLeadingZero s
unsigned_plain zero s h e = is_plain s (inl (e ∙ decimal_digit 0 (omega arith)))
unsigned_plain (suc n) s h e = let r = begins (suc n) (omega arith) (omega arith) in is_plain s (inr (r.0, r.1, r.2, inl (e ∙ r.3)))

pub signed_plain : (z : ℤ) (s : List ℕ) → IsShort z → s ≡ signed_decimal z → HasNoLeadingZero s
signed_plain (pos n) s h e = unsigned_plain n s h e
signed_plain (negsuc n) s h e = let r = begins (suc n) (omega arith) (omega arith) in is_plain s (inr (r.0, r.1, r.2, inr (e ∙ ap (λ l. 45 ∷ l) r.3)))

-- ---- what is parsed
not_plus : (c : ℕ) (cs : List ℕ) → 48 ≤ c → without_leading_plus (c ∷ cs) ≡ c ∷ cs
not_plus c cs h = drops (eqb c 43) (λ e. (let g : c ≡ 43 = grind arith in omega (arith, g, h)))
  where
    drops : (b : Bool) → (b ≡ true → ⊥) → drop (cond b 1 0) (c ∷ cs) ≡ c ∷ cs
    drops true n = absurd (n refl)
    drops false n = refl

-- what `parse` says of a number that it gives
abbrev ReadsUnsigned : List ℕ → ℕ → Type 0
ReadsUnsigned s n = (IsNumeral 10 (without_leading_plus s) × (digits_value 10 (without_leading_plus s) < 2 ^ 128)) × (n ≡ digits_value 10 (without_leading_plus s))

abbrev ReadsSigned : List ℕ → ℤ → Type 0
ReadsSigned s z = (IsNumeral 10 (without_leading_sign s) × FitsSigned w128 (signed_digits_value 10 s)) × (z ≡ signed_digits_value 10 s)

unsigned_cases : (s : List ℕ) (n : ℕ) → Plain s → ReadsUnsigned s n → s ≡ decimal n
unsigned_cases s n (inl e) p =
    let q = subst (λ s. ReadsUnsigned s n) e p in
    let v : n ≡ 0 = q.1 in
    e ∙ sym (decimal_digit 0 (omega arith)) ∙ ap (λ n. decimal n) (sym v)
unsigned_cases s n (inr (c, cs, h, inl e)) p =
    let q = subst (λ s. ReadsUnsigned s n) e p in
    let w = not_plus c cs (omega (arith, h.0)) in
    let d = subst (λ l. IsNumeral 10 l × (digits_value 10 l < 2 ^ 128)) w q.0 in
    let v : n ≡ digits_value 10 (c ∷ cs) = q.1 ∙ ap (λ l. digits_value 10 l) w in
    e ∙ sym (digits_are c cs h d.0.1 (omega (arith, d.1))) ∙ ap (λ n. decimal n) (sym v)
unsigned_cases s n (inr (c, cs, h, inr e)) p =
    let q = subst (λ s. ReadsUnsigned s n) e p in
    absurd (omega (arith, digit_from_value 45 q.0.0.1.0))

-- digits behind a minus, and without one
not_sign : (c : ℕ) (cs : List ℕ) → 48 ≤ c → (without_leading_sign (c ∷ cs) ≡ c ∷ cs) × (signed_digits_value 10 (c ∷ cs) ≡ pos (digits_value 10 (c ∷ cs)))
not_sign c cs h =
    let w = not_plus c cs h in
    let p = plain (eqb c 45) (λ e. (let g : c ≡ 45 = grind arith in omega (arith, g, h))) in
    let d : without_leading_sign (c ∷ cs) ≡ c ∷ cs = p.0 ∙ w in
    (d, p.1 ∙ ap (λ l. pos (digits_value 10 l)) d)
  where
    plain : (b : Bool) → (b ≡ true → ⊥) → (cond b (drop 1 (c ∷ cs)) (without_leading_plus (c ∷ cs)) ≡ without_leading_plus (c ∷ cs)) × (cond b (neg_ℤ (pos (digits_value 10 (without_leading_sign (c ∷ cs))))) (pos (digits_value 10 (without_leading_sign (c ∷ cs)))) ≡ pos (digits_value 10 (without_leading_sign (c ∷ cs))))
    plain true n = absurd (n refl)
    plain false n = (refl, refl)

pub numeral_value : (ds : List ℕ) → IsNumeral 10 ds → signed_digits_value 10 ds ≡ pos (digits_value 10 ds)
numeral_value [] h = absurd (omega (arith, h.0))
numeral_value (c ∷ cs) h = (not_sign c cs (digit_from_value c h.1.0).0).1

negative_is : (m : ℕ) → 0 < m → 45 ∷ decimal m ≡ signed_decimal (neg_ℤ (pos m))
negative_is zero h = absurd (omega (arith, h))
negative_is (suc m) h = refl

negative_few : (m : ℕ) → FitsSigned w128 (neg_ℤ (pos m)) → m < 10 ^ 64
negative_few zero f = omega arith
negative_few (suc m) f = omega (arith, f.sfits)

signed_cases : (s : List ℕ) (z : ℤ) → Plain s → ReadsSigned s z → s ≡ signed_decimal z
signed_cases s z (inl e) p =
    let q = subst (λ s. ReadsSigned s z) e p in
    let v : z ≡ pos 0 = q.1 in
    e ∙ sym (decimal_digit 0 (omega arith)) ∙ ap (λ z. signed_decimal z) (sym v)
signed_cases s z (inr (c, cs, h, inl e)) p =
    let q = subst (λ s. ReadsSigned s z) e p in
    let w = not_sign c cs (omega (arith, h.0)) in
    let d = subst (λ l. IsNumeral 10 l) w.0 q.0.0 in
    let f = subst (λ z. FitsSigned w128 z) w.1 q.0.1 in
    e ∙ sym (digits_are c cs h d.1 (omega (arith, f.sfits))) ∙ ap (λ z. signed_decimal z) (sym w.1 ∙ sym q.1)
signed_cases s z (inr (c, cs, h, inr e)) p =
    let q = subst (λ s. ReadsSigned s z) e p in
    let m = digits_value 10 (c ∷ cs) in
    let v : z ≡ neg_ℤ (pos m) = q.1 in
    e ∙ ap (λ l. 45 ∷ l) (sym (digits_are c cs h q.0.0.1 (negative_few m q.0.1))) ∙ negative_is m (value_some c cs h) ∙ ap (λ z. signed_decimal z) (sym v)

-- `parse` of a printed number, of up to 128 bits
parse_signed : {E : Type 0} (z : ℤ) (s : List ℕ) (r : Result ℤ E) → FitsSigned w128 z → s ≡ signed_decimal z → ParsesSigned w128 10 s r → r ≡ Ok z
parse_signed (pos n) s r f is h =
    let k = decimal_is_IsNumeral_wide n (omega (arith, f.sfits)) in
    let read = parse_signed_digits (numerals_by_value _ tells_digits) w128 (decimal n) r (subst (λ l. ParsesSigned w128 10 l r) is h) k.0.1 in
    Ok-from_Ok_iff r _ _ read (k.0.0, omega (arith, k.1, f.sfits)) ∙ ap (λ m. Ok (pos m)) k.1
parse_signed (negsuc n) s r f is h =
    let k = decimal_is_IsNumeral_wide (suc n) (omega (arith, f.sfits)) in
    let read = parse_signed_minus (numerals_by_value _ tells_digits) w128 (45 ∷ decimal (suc n)) r (subst (λ l. ParsesSigned w128 10 l r) is h) refl in
    Ok-from_Ok_iff r _ _ read (k.0.1, k.0.0, omega (arith, k.1, f.sfits)) ∙ ap (λ m. Ok (neg_ℤ (pos m))) k.1

pub unsigned_parsed : {E : Type 0} (s : List ℕ) (r : Result ℕ E) (o : Option ℕ) → HasNoLeadingZero s → ParsesUnsigned 128 10 s r → o ≡ result_ok r → MatchOption o ((n : ℕ) → n < 2 ^ 128 → s ≡ decimal n → ⊥) (λ n. s ≡ decimal n)
unsigned_parsed s (Ok n) o h p e = subst (λ o. MatchOption o ((n : ℕ) → n < 2 ^ 128 → s ≡ decimal n → ⊥) (λ n. s ≡ decimal n)) (sym e) (unsigned_cases s n (plain_is s h) p)
unsigned_parsed s (Err x) o h p e = subst (λ o. MatchOption o ((n : ℕ) → n < 2 ^ 128 → s ≡ decimal n → ⊥) (λ n. s ≡ decimal n)) (sym e) (λ n l d. let g = parse-decimal_wide 128 n s (Err x) l (omega arith) d p in cc)

pub signed_parsed : {E : Type 0} (s : List ℕ) (r : Result ℤ E) (o : Option ℤ) → HasNoLeadingZero s → ParsesSigned w128 10 s r → o ≡ result_ok r → MatchOption o ((z : ℤ) → FitsSigned w128 z → s ≡ signed_decimal z → ⊥) (λ z. s ≡ signed_decimal z)
signed_parsed s (Ok z) o h p e = subst (λ o. MatchOption o ((z : ℤ) → FitsSigned w128 z → s ≡ signed_decimal z → ⊥) (λ z. s ≡ signed_decimal z)) (sym e) (signed_cases s z (plain_is s h) p)
signed_parsed s (Err x) o h p e = subst (λ o. MatchOption o ((z : ℤ) → FitsSigned w128 z → s ≡ signed_decimal z → ⊥) (λ z. s ≡ signed_decimal z)) (sym e) (λ z f d. let g = parse_signed z s (Err x) f d p in cc)
