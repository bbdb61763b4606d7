-- What a word of JSON is read from: printable ASCII, and then where it ends.
use Rattle.std.proofs.{Common.{◌≡◌, inl, inr, ℕ, suc, ◌+◌, ◌-◌, Bool, true, false, cond, ◌&&◌, ◌||◌, ◌==◌, nat_eq, List, [], ◌∷◌, ◌++◌, length, take, drop, get_or, refl, sym, ◌∙◌, ap, subst, arith, append-nil, append_assoc, length-append, take_at, take-append-drop, eqb-true}, lemmas.Bool.Decides.{nat_tests}, lemmas.Bool.{and_parts, and_from, or_cases, false≢true}, lemmas.Slice.Eq.{bytes_eq-Decides}}
use Rattle.std.specs.{Prelude.{⊤, Option, Some, None, option_and_then}, List.{list_all, prefix_len, starts_with}, Char.{is_ascii_digit}}
use Rattle.json.specs.{Token.{Token, boolean, null, number, bad}, Align.{is_good}, Word.{head, ends_word, after_digits, after_minus, after_sign, after_whole, after_fraction, after_exponent, after_number, number_before, literal, word}, Lex.{Lexeme, token, comma, colon, other, class, between, lex_byte, lex}, Print.{IsNumber}}
use Rattle.json.proofs.{Found.{not_found}, Printed.Numbers.{number_alone, lex-number}}
use Rattle.borsh_json.specs.Ascii.{is_printable}

-- ---- what a part of a number takes is printable

abbrev pub Printed : List ℕ → Type 0
Printed w = list_all is_printable w ≡ true

both : (v w : List ℕ) → Printed v → Printed w → Printed (v ++ w)
both [] w a b = b
both (x ∷ v) w a b = let p = and_parts (is_printable x) (list_all is_printable v) a in and_from _ _ p.0 (both v w p.1 b)

-- what is left comes behind printable bytes
abbrev Takes : List ℕ → Option (List ℕ) → Type 0
Takes t None = ⊤
Takes t (Some r) = (w : List ℕ) × Printed w × (t ≡ w ++ r)

nothing : (t : List ℕ) → Takes t (Some t)
nothing t = ([], refl, refl)

further : (t u : List ℕ) (o : Option (List ℕ)) → Takes t (Some u) → Takes u o → Takes t o
further t u None a b = tt
further t u (Some r) a b = (a.0 ++ b.0, both a.0 b.0 a.1 b.1, a.2 ∙ ap (λ l. a.0 ++ l) b.2 ∙ sym (append_assoc a.0 b.0 r))

one : (t : List ℕ) (c : ℕ) → is_printable c ≡ true → (head t == c) ≡ true → Takes t (Some (drop 1 t))
one [] c h e = ([], refl, refl)
one (b ∷ bs) c h e = (b ∷ [], ap (λ x. is_printable x && true) (eqb-true b c e) ∙ ap (λ x. x && true) h, refl)

one_of : (t : List ℕ) (a b : ℕ) → is_printable a ≡ true → is_printable b ≡ true → ((head t == a) || (head t == b)) ≡ true → Takes t (Some (drop 1 t))
one_of t a b p q e = elim (or_cases (head t == a) (head t == b) e) [ inl f ↦ one t a p f | inr f ↦ one t b q f ]

either : (t : List ℕ) (b : Bool) (x y : Option (List ℕ)) → (b ≡ true → Takes t x) → Takes t y → Takes t (cond b x y)
either t true x y p q = p refl
either t false x y p q = q

skipped : (t : List ℕ) (b : Bool) → (b ≡ true → Takes t (Some (drop 1 t))) → Takes t (Some (cond b (drop 1 t) t))
skipped t true f = f refl
skipped t false f = nothing t

digit_printed : (b : ℕ) → is_ascii_digit b ≡ true → is_printable b ≡ true
digit_printed b e = grind (arith, nat_tests)

run : (t : List ℕ) → Takes t (Some (drop (prefix_len is_ascii_digit t) t))
run [] = nothing []
run (b ∷ bs) = by (is_ascii_digit b) refl (run bs)
  where
    by : (d : Bool) → is_ascii_digit b ≡ d → Takes bs (Some (drop (prefix_len is_ascii_digit bs) bs)) → Takes (b ∷ bs) (Some (drop (cond d (1 + prefix_len is_ascii_digit bs) 0) (b ∷ bs)))
    by true e more =
        let s : suc (prefix_len is_ascii_digit bs) ≡ 1 + prefix_len is_ascii_digit bs = omega arith in
        subst (λ k. Takes (b ∷ bs) (Some (drop k (b ∷ bs)))) s
        (further (b ∷ bs) bs (Some (drop (prefix_len is_ascii_digit bs) bs)) (b ∷ [], ap (λ x. x && true) (digit_printed b e), refl) more)
    by false e more = nothing (b ∷ bs)

digits : (t : List ℕ) → Takes t (after_digits t)
digits t = either t (prefix_len is_ascii_digit t == 0) None _ (λ e. tt) (run t)

then : (t : List ℕ) (f : List ℕ → Option (List ℕ)) → ((u : List ℕ) → Takes u (f u)) → (o : Option (List ℕ)) → Takes t o → Takes t (option_and_then f o)
then t f g None h = tt
then t f g (Some r) h = further t r (f r) h (g r)

whole : (t : List ℕ) → Takes t (after_whole t)
whole t = either t (head t == 48) (Some (drop 1 t)) _ (one t 48 refl) (digits t)

fraction : (t : List ℕ) → Takes t (after_fraction t)
fraction t = either t (head t == 46) _ (Some t) (λ e. further t (drop 1 t) _ (one t 46 refl e) (digits (drop 1 t))) (nothing t)

exponent : (t : List ℕ) → Takes t (after_exponent t)
exponent t =
    let u = drop 1 t in
    either t ((head t == 101) || (head t == 69)) _ (Some t)
    (λ e. further t u _ (one_of t 101 69 refl refl e) (further u (after_sign u) _ (skipped u _ (one_of u 45 43 refl refl)) (digits (after_sign u)))) (nothing t)

takes_number : (t : List ℕ) → Takes t (after_number t)
unfolding after_number
takes_number t =
    let u = after_minus t in
    then t after_exponent exponent _ (then t after_fraction fraction _ (further t u _ (skipped t _ (one t 45 refl)) (whole u)))

-- a number is printable
pub number_printed : (s : List ℕ) → IsNumber s → Printed s
number_printed s e = by (after_number s) e (takes_number s)
  where
    by : (o : Option (List ℕ)) → o ≡ Some [] → Takes s o → Printed s
    by None e h = not_found [] e
    by (Some []) e h = subst Printed (sym (h.2 ∙ append-nil h.0)) h.1
    by (Some (x ∷ r)) e h = absurd (let n : suc (length r) ≡ 0 = ap size e in omega arith)
      where
        size : Option (List ℕ) → ℕ
        size None = 0
        size (Some l) = length l

-- ---- words

-- k is read from printable bytes at the front, up to where a word ends; and from them before anything else where a word ends
abbrev pub Stops : List ℕ → Token → Type 0
Stops t k = (w : List ℕ) × (r : List ℕ) × (t ≡ w ++ r) × Printed w × (ends_word r ≡ true) × ((s : List ℕ) → ends_word s ≡ true → word (w ++ s) ≡ k)

abbrev IfGood : List ℕ → Token → Type 0
IfGood t k = is_good k ≡ true → Stops t k

choose : (t : List ℕ) (b : Bool) (x y : Token) → (b ≡ true → IfGood t x) → (b ≡ false → IfGood t y) → IfGood t (cond b x y)
choose t true x y p q = p refl
choose t false x y p q = q refl

ends_literal : (t name : List ℕ) (k : Token) → Printed name → ((s : List ℕ) → ends_word s ≡ true → word (name ++ s) ≡ k) → IfGood t (literal name k t)
ends_literal t name k p again =
    let rest = drop (length name) t in
    choose t (starts_with nat_eq t name && ends_word rest) k bad
    (λ e g.
    let a = and_parts (starts_with nat_eq t name) (ends_word rest) e in
    let front : name ≡ take (length name) t = (bytes_eq-Decides name (take (length name) t)).0 a.0 in
    (name, rest, sym (take-append-drop (length name) t) ∙ ap (λ l. l ++ rest) (sym front), p, a.1, again))
    (λ e g. absurd (false≢true g))

first_token : List Lexeme → Token
first_token [] = bad
first_token (token t ∷ ls) = t
first_token (comma ∷ ls) = bad
first_token (colon ∷ ls) = bad

number_word : (b : ℕ) (v s : List ℕ) → class b ≡ other → IsNumber (b ∷ v) → ends_word s ≡ true → word (b ∷ v ++ s) ≡ number (b ∷ v)
unfolding lex first_token
number_word b v s o n e = ap first_token (ap (λ c. lex_byte between c b (v ++ s) (λ m. lex m (v ++ s))) (sym o) ∙ lex-number (b ∷ v) s n e)

no_number : IsNumber [] → ⊥
unfolding after_number
no_number e = not_found [] e

ends_number : (b : ℕ) (bs : List ℕ) → class b ≡ other → (o : Option (List ℕ)) → after_number (b ∷ bs) ≡ o → Takes (b ∷ bs) o → IfGood (b ∷ bs) (number_before (b ∷ bs) o)
ends_number b bs o None a h = λ g. absurd (false≢true g)
ends_number b bs o (Some r) a h =
    choose (b ∷ bs) (ends_word r) (number (take (length (b ∷ bs) - length r) (b ∷ bs))) bad (λ e g. by h.0 h.1 h.2 e) (λ e g. absurd (false≢true g))
  where
    by : (w : List ℕ) → Printed w → b ∷ bs ≡ w ++ r → ends_word r ≡ true → Stops (b ∷ bs) (number (take (length (b ∷ bs) - length r) (b ∷ bs)))
    by [] p q e = absurd (no_number (number_alone [] r e (ap after_number (sym q) ∙ a)))
    by (c ∷ v) p q e =
        let size : length (c ∷ v) ≡ length (b ∷ bs) - length r = omega (arith, ap length q, length-append (c ∷ v) r) in
        let same : take (length (b ∷ bs) - length r) (b ∷ bs) ≡ c ∷ v = ap (take (length (b ∷ bs) - length r)) q ∙ take_at (c ∷ v) r _ size in
        let first : b ≡ c = ap (λ l. get_or l 0 0) q in
        let n = number_alone (c ∷ v) r e (ap after_number (sym q) ∙ a) in
        (c ∷ v, r, q, p, e, λ s f. number_word c v s (ap class (sym first) ∙ o) n f ∙ ap number (sym same))

pub word_stops : (b : ℕ) (bs : List ℕ) → class b ≡ other → IfGood (b ∷ bs) (word (b ∷ bs))
unfolding word
word_stops b bs o =
    let t = b ∷ bs in
    choose t (b == 116) _ _ (λ e. ends_literal t (116 ∷ 114 ∷ 117 ∷ 101 ∷ []) (boolean true) refl (λ s f. ap (λ x. cond x (boolean true) bad) f))
    (λ e. choose t (b == 102) _ _ (λ e. ends_literal t (102 ∷ 97 ∷ 108 ∷ 115 ∷ 101 ∷ []) (boolean false) refl (λ s f. ap (λ x. cond x (boolean false) bad) f))
    (λ e. choose t (b == 110) _ _ (λ e. ends_literal t (110 ∷ 117 ∷ 108 ∷ 108 ∷ []) null refl (λ s f. ap (λ x. cond x null bad) f))
    (λ e. ends_number b bs o (after_number t) refl (takes_number t))))
