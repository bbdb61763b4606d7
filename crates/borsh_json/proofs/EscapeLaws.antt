-- JSON in ASCII is read as the same JSON.
use Rattle.std.proofs.{Common.{◌≡◌, ◌⊎◌, inl, inr, ℕ, ◌<◌, ◌≤◌, Bool, true, false, cond, ◌&&◌, ◌||◌, ◌==◌, nat_lt, List, [], ◌∷◌, ◌++◌, length, drop, get_or, encode_utf8, IsUtf8, All, refl, sym, ◌∙◌, ap, ap₂, subst, arith, append_assoc, length-append, eqb-true, lt-ltb, le-ltb, ne_eqb}, lemmas.Bool.Decides.{nat_tests}, lemmas.Bool.{and_parts, and_from, or_cases, or_parts, true≢false, false≢true}, lemmas.List.Elements.{All-head, All-tail}, lemmas.Str.{cons_from_encodes, encode_ascii, length-encode, len_utf8_bounds}}
use Rattle.std.specs.{Prelude.{⊤, Option, Some, None, option_and_then}, Char.{IsScalar, is_digit}}
use lib.Utf8.{encode, scalars}
use Rattle.json.specs.{Token.{Token, begin_object, end_object, begin_array, end_array, key, string, number, boolean, null, bad}, Align.{is_good}, Text.{Within, content, plain, after_backslash, after_u, after_high, code_unit, short_escape, prepend, is_high_surrogate, is_low_surrogate, surrogate_pair}, Word.{ends_word, word}, Lex.{Lexeme, token, comma, colon, Class, quote, backslash, operator, space, other, class, operator_lexeme, string_token, Mode, between, in_word, in_string, in_escape, lex_byte, lex}, Lex.{Place, fresh, after_value, after_comma, after_key, begins_colon, may_begin, may_close, if_allowed, place_token, punctuate}, Json.{Json, value, if_last, max_depth, document}, Print.{ArePrintable}}
use Rattle.json.proofs.{Found.{not_found}, Numbered.{document-HasNumbers}, Printed.Trees.{ArePrintable-json_tokens}, Printed.Utf8.{are_ascii, IsUtf8-are_ascii}, Unique.Spelling.{tokens-document}}
use Rattle.borsh_json.specs.Ascii.{IsPlain, is_plain, is_printable, units_text, character_text}
use Rattle.borsh_json.proofs.{UnitLaws.{IsOther, Others, no_end, other_class, past_in_string, past_in_word, units_read, units_in_string, units_in_escape, units_in_word}, WordLaws.{Printed, Stops, word_stops}}

-- ---- printable bytes

small : (b : ℕ) → is_plain b ≡ true → b < 127
small b e = grind (arith, nat_tests)

high_printed : (b : ℕ) → 127 ≤ b → is_printable b ≡ false
high_printed b h = grind (arith, nat_tests)

-- other bytes are control characters or no ASCII
ranges : (b : ℕ) → is_printable b ≡ false → (b < 32) ⊎ (127 ≤ b)
ranges b e = grind (arith, nat_tests)

pub plain_utf8 : (bs : List ℕ) → All IsPlain bs → IsUtf8 bs
plain_utf8 bs h = IsUtf8-are_ascii bs (ascii bs h)
  where
    ascii : (bs : List ℕ) → All IsPlain bs → are_ascii bs ≡ true
    ascii [] h = refl
    ascii (b ∷ bs) h = and_from _ _ (lt-ltb b 128 (omega (arith, small b (All-head IsPlain b bs h)))) (ascii bs (All-tail IsPlain b bs h))

pub first_scalar : (c : ℕ) (rest : List ℕ) → IsUtf8 (encode_utf8 c ++ rest) → IsScalar c
first_scalar c rest u = let k = cons_from_encodes u.0 rest c u.1.1 in (and_parts _ _ (subst (λ cs. scalars cs ≡ true) k.1 u.1.0)).0

-- printable bytes at the front of a text come before what doesn't begin with one
split : (w r p x : List ℕ) → Printed w → is_printable (get_or x 0 0) ≡ false → p ++ x ≡ w ++ r → (q : List ℕ) × (p ≡ w ++ q) × (r ≡ q ++ x)
split [] r p x a n e = (p, refl, sym e)
split (b ∷ w) r [] x a n e = absurd (true≢false (sym (and_parts (is_printable b) _ a).0 ∙ sym (ap (λ l. is_printable (get_or l 0 0)) e) ∙ n))
split (b ∷ w) r (c ∷ p) x a n e =
    let first : c ≡ b = ap (λ l. get_or l 0 0) e in
    let k = split w r p x (and_parts (is_printable b) _ a).1 n (ap (drop 1) e) in
    (k.0, λ i. first i ∷ k.1 i, k.2)

-- ---- the content of a string

-- where o is an answer, p is the same
abbrev Kept : Option (List ℕ) → Option (List ℕ) → Type 0
Kept None p = ⊤
Kept (Some a) p = p ≡ Some a

same : (o : Option (List ℕ)) → Kept o o
same None = tt
same (Some a) = refl

kept_from : (o p : Option (List ℕ)) → p ≡ o → Kept o p
kept_from o p e = subst (λ x. Kept o x) (sym e) (same o)

by_test : (b : Bool) (x y u v : Option (List ℕ)) → Kept x u → Kept y v → Kept (cond b x y) (cond b u v)
by_test true x y u v p q = p
by_test false x y u v p q = q

prepended : (bs : List ℕ) (o p : Option (List ℕ)) → Kept o p → Kept (prepend bs o) (prepend bs p)
prepended bs None p h = tt
prepended bs (Some a) p h = ap (prepend bs) h

after : (o : Option ℕ) (f g : ℕ → Option (List ℕ)) → ((a : ℕ) → Kept (f a) (g a)) → Kept (option_and_then f o) (option_and_then g o)
after None f g h = tt
after (Some a) f g h = h a

-- a text begins with n printable bytes
abbrev Begins : ℕ → List ℕ → Type 0
Begins n t = (w : List ℕ) × (r : List ℕ) × (length w ≡ n) × Printed w × (t ≡ w ++ r)

digit_printed : (a : ℕ) → is_digit a 16 ≡ true → is_printable a ≡ true
digit_printed a e = grind (arith, nat_tests)

-- where a code unit is read, there are four digits
four : (a b c d : ℕ) (f : ℕ → Option (List ℕ)) (s : List ℕ) → option_and_then f (code_unit a b c d) ≡ Some s → Printed (a ∷ b ∷ c ∷ d ∷ [])
unfolding code_unit
four a b c d f s e =
    let h = by (is_digit a 16 && is_digit b 16 && is_digit c 16 && is_digit d 16) _ e in
    let p = and_parts (is_digit a 16 && is_digit b 16 && is_digit c 16) (is_digit d 16) h in
    let q = and_parts (is_digit a 16 && is_digit b 16) (is_digit c 16) p.0 in
    let r = and_parts (is_digit a 16) (is_digit b 16) q.0 in
    and_from _ _ (digit_printed a r.0) (and_from _ _ (digit_printed b r.1) (and_from _ _ (digit_printed c q.1) (and_from _ _ (digit_printed d p.1) refl)))
  where
    by : (t : Bool) (v : ℕ) → option_and_then f (cond t (Some v) None) ≡ Some s → t ≡ true
    by true v e = refl
    by false v e = not_found s e

begins_unit : (t s : List ℕ) → content after_u t ≡ Some s → Begins 4 t
unfolding content
begins_unit (a ∷ b ∷ c ∷ d ∷ r) s e = (a ∷ b ∷ c ∷ d ∷ [], r, refl, four a b c d _ s e, refl)
begins_unit n s e = not_found s e

begins_pair : (h : ℕ) (t s : List ℕ) → content (after_high h) t ≡ Some s → Begins 6 t
unfolding content
begins_pair h (x ∷ u ∷ a ∷ b ∷ c ∷ d ∷ r) s e = by ((x == 92) && (u == 117)) refl e
  where
    by : (t : Bool) → ((x == 92) && (u == 117)) ≡ t
        → cond t (option_and_then (λ l. cond (is_low_surrogate l) (prepend (encode_utf8 (surrogate_pair h l)) (content plain r)) None) (code_unit a b c d)) None ≡ Some s → Begins 6 (x ∷ u ∷ a ∷ b ∷ c ∷ d ∷ r)
    by false g e = not_found s e
    by true g e =
        let p = and_parts (x == 92) (u == 117) g in
        let both : Printed (x ∷ u ∷ a ∷ b ∷ c ∷ d ∷ []) = and_from _ _ (ap is_printable (eqb-true x 92 p.0)) (and_from _ _ (ap is_printable (eqb-true u 117 p.1)) (four a b c d _ s e)) in
        (x ∷ u ∷ a ∷ b ∷ c ∷ d ∷ [], r, refl, both, refl)
begins_pair h n s e = not_found s e

-- ---- the lexemes of JSON are good

abbrev IsGood : Lexeme → Type 0
IsGood (token t) = is_good t ≡ true
IsGood comma = ⊤
IsGood colon = ⊤

abbrev Good : List Lexeme → Type 0
Good [] = ⊤
Good (l ∷ ls) = IsGood l × Good ls

-- the token is good, and so are those behind it in some place
abbrev Goes : Token → (Place → List Token) → Type 0
Goes t k = (is_good t ≡ true) × (n : Place) × ArePrintable (k n)

allowed : (b : Bool) (t u : Token) (k : Place → List Token) (n : Place) → is_good t ≡ true → ArePrintable (if_allowed b u k n) → Goes t k
unfolding ArePrintable
allowed true t u k n g h = (g, n, h.1)
allowed false t u k n g h = absurd h.0

placed : (p : Place) (t : Token) (b : Bool) (k : Place → List Token) → ArePrintable (place_token p t b k) → Goes t k
unfolding ArePrintable
placed p begin_object b k h = allowed (may_begin p) begin_object begin_object k fresh refl h
placed p end_object b k h = allowed (may_close p) end_object end_object k after_value refl h
placed p begin_array b k h = allowed (may_begin p) begin_array begin_array k fresh refl h
placed p end_array b k h = allowed (may_close p) end_array end_array k after_value refl h
placed p (key s) b k h = absurd h.0
placed p (string s) true k h = allowed (may_begin p) (string s) (key s) k after_key refl h
placed p (string s) false k h = allowed (may_begin p) (string s) (string s) k after_value refl h
placed p (number s) b k h = allowed (may_begin p) (number s) (number s) k after_value refl h
placed p (boolean v) b k h = allowed (may_begin p) (boolean v) (boolean v) k after_value refl h
placed p null b k h = allowed (may_begin p) null null k after_value refl h
placed p bad b k h = absurd h.0

good : (ls : List Lexeme) (p : Place) → ArePrintable (punctuate p ls) → Good ls
unfolding punctuate ArePrintable
good [] p h = tt
good (token t ∷ ls) p h = let g = placed p t (begins_colon ls) (λ n. punctuate n ls) h in (g.0, good ls g.1 g.2)
good (comma ∷ ls) fresh h = absurd h.0
good (comma ∷ ls) after_value h = (tt, good ls after_comma h)
good (comma ∷ ls) after_comma h = absurd h.0
good (comma ∷ ls) after_key h = absurd h.0
good (colon ∷ ls) fresh h = absurd h.0
good (colon ∷ ls) after_value h = absurd h.0
good (colon ∷ ls) after_comma h = absurd h.0
good (colon ∷ ls) after_key h = (tt, good ls fresh h)

-- ---- one text in another's place

-- wherever x stands in JSON, y may stand
record Stands (x y : List ℕ) : Type 0 where
  foreign : is_printable (get_or x 0 0) ≡ false
  read : Kept (content plain x) (content plain y)
  escaped : content after_backslash x ≡ None
  ends : ends_word x ≡ true → ends_word y ≡ true
  lexed : (m : Mode) → Good (lex m x) → lex m y ≡ lex m x

module _ (x y : List ℕ) (h : Stands x y) where
  too_short : (n : ℕ) (p : List ℕ) (o z : Option (List ℕ)) → length p < n → ((s : List ℕ) → o ≡ Some s → Begins n (p ++ x)) → Kept o z
  too_short n p None z l f = tt
  too_short n p (Some s) z l f =
      let b = f s refl in
      let q = split b.0 b.1 p x b.3 h.foreign b.4 in
      absurd (omega (arith, b.2, ap length q.1, length-append b.0 q.0))

  kept : (p : List ℕ) (w : Within) → Kept (content w (p ++ x)) (content w (p ++ y))
  unfolding content
  kept [] plain = h.read
  kept (b ∷ p) plain =
      by_test (b == 34) _ _ _ _ refl (by_test (b == 92) _ _ _ _ (kept p after_backslash) (by_test (nat_lt b 32) None _ None _ tt (prepended (b ∷ []) _ _ (kept p plain))))
  kept [] after_backslash = subst (λ o. Kept o (content after_backslash y)) (sym h.escaped) tt
  kept (b ∷ p) after_backslash = by_test (b == 117) _ _ _ _ (kept p after_u) (after (short_escape b) _ _ (λ c. prepended (c ∷ []) _ _ (kept p plain)))
  kept [] after_u = too_short 4 [] _ _ (omega arith) (begins_unit x)
  kept (a ∷ []) after_u = too_short 4 (a ∷ []) _ _ (omega arith) (begins_unit (a ∷ x))
  kept (a ∷ b ∷ []) after_u = too_short 4 (a ∷ b ∷ []) _ _ (omega arith) (begins_unit (a ∷ b ∷ x))
  kept (a ∷ b ∷ c ∷ []) after_u = too_short 4 (a ∷ b ∷ c ∷ []) _ _ (omega arith) (begins_unit (a ∷ b ∷ c ∷ x))
  kept (a ∷ b ∷ c ∷ d ∷ p) after_u =
      after (code_unit a b c d) _ _ (λ u. by_test (is_high_surrogate u) _ _ _ _ (kept p (after_high u)) (by_test (is_low_surrogate u) None _ None _ tt (prepended (encode_utf8 u) _ _ (kept p plain))))
  kept [] (after_high v) = too_short 6 [] _ _ (omega arith) (begins_pair v x)
  kept (s ∷ []) (after_high v) = too_short 6 (s ∷ []) _ _ (omega arith) (begins_pair v (s ∷ x))
  kept (s ∷ u ∷ []) (after_high v) = too_short 6 (s ∷ u ∷ []) _ _ (omega arith) (begins_pair v (s ∷ u ∷ x))
  kept (s ∷ u ∷ a ∷ []) (after_high v) = too_short 6 (s ∷ u ∷ a ∷ []) _ _ (omega arith) (begins_pair v (s ∷ u ∷ a ∷ x))
  kept (s ∷ u ∷ a ∷ b ∷ []) (after_high v) = too_short 6 (s ∷ u ∷ a ∷ b ∷ []) _ _ (omega arith) (begins_pair v (s ∷ u ∷ a ∷ b ∷ x))
  kept (s ∷ u ∷ a ∷ b ∷ c ∷ []) (after_high v) = too_short 6 (s ∷ u ∷ a ∷ b ∷ c ∷ []) _ _ (omega arith) (begins_pair v (s ∷ u ∷ a ∷ b ∷ c ∷ x))
  kept (s ∷ u ∷ a ∷ b ∷ c ∷ d ∷ p) (after_high v) =
      by_test ((s == 92) && (u == 117)) _ None _ None
      (after (code_unit a b c d) _ _ (λ l. by_test (is_low_surrogate l) _ None _ None (prepended (encode_utf8 (surrogate_pair v l)) _ _ (kept p plain)) tt)) tt

  ended : (q : List ℕ) → ends_word (q ++ x) ≡ true → ends_word (q ++ y) ≡ true
  ended [] e = h.ends e
  ended (b ∷ q) e = e

  same_word : (b : ℕ) (p : List ℕ) → class b ≡ other → is_good (word (b ∷ p ++ x)) ≡ true → word (b ∷ p ++ y) ≡ word (b ∷ p ++ x)
  same_word b p o g =
      let s = word_stops b (p ++ x) o g in
      let q = split s.0 s.1 (b ∷ p) x s.3 h.foreign s.2 in
      ap word (ap (λ l. l ++ y) q.1 ∙ append_assoc s.0 q.0 y) ∙ s.5 (q.0 ++ y) (ended q.0 (subst (λ r. ends_word r ≡ true) q.2 s.4))

  same_text : (o z : Option (List ℕ)) → Kept o z → is_good (string_token o) ≡ true → z ≡ o
  same_text None z k g = absurd (false≢true g)
  same_text (Some s) z k g = k

  same_byte : (m : Mode) (c : Class) (b : ℕ) (p : List ℕ) → class b ≡ c → ((n : Mode) → Good (lex n (p ++ x)) → lex n (p ++ y) ≡ lex n (p ++ x))
      → Good (lex_byte m c b (p ++ x) (λ n. lex n (p ++ x))) → lex_byte m c b (p ++ y) (λ n. lex n (p ++ y)) ≡ lex_byte m c b (p ++ x) (λ n. lex n (p ++ x))
  same_byte between quote b p o again g = ap₂ (λ s l. token (string_token s) ∷ l) (same_text _ _ (kept p plain) g.0) (again in_string g.1)
  same_byte between backslash b p o again g = absurd (false≢true g.0)
  same_byte between operator b p o again g = ap (λ l. operator_lexeme b ∷ l) (again between g.1)
  same_byte between space b p o again g = again between g
  same_byte between other b p o again g = ap₂ (λ k l. token k ∷ l) (same_word b p o g.0) (again in_word g.1)
  same_byte in_word quote b p o again g = again in_word g
  same_byte in_word backslash b p o again g = again in_word g
  same_byte in_word operator b p o again g = ap (λ l. operator_lexeme b ∷ l) (again between g.1)
  same_byte in_word space b p o again g = again between g
  same_byte in_word other b p o again g = again in_word g
  same_byte in_string quote b p o again g = again between g
  same_byte in_string backslash b p o again g = again in_escape g
  same_byte in_string operator b p o again g = again in_string g
  same_byte in_string space b p o again g = again in_string g
  same_byte in_string other b p o again g = again in_string g
  same_byte in_escape c b p o again g = again in_string g

  same_lexemes : (p : List ℕ) (m : Mode) → Good (lex m (p ++ x)) → lex m (p ++ y) ≡ lex m (p ++ x)
  unfolding lex
  same_lexemes [] m g = h.lexed m g
  same_lexemes (b ∷ p) m g = same_byte m (class b) b p refl (same_lexemes p) g

  same_document : (p : List ℕ) (j : Json) → document (p ++ x) ≡ Some j → document (p ++ y) ≡ Some j
  same_document p j e =
      let printable = subst ArePrintable (sym (tokens-document (p ++ x) j e)) (ArePrintable-json_tokens j (document-HasNumbers (p ++ x) j e)) in
      ap (λ ls. option_and_then (λ q. if_last q.0 q.1) (value max_depth (punctuate fresh ls))) (same_lexemes p between (good (lex between (p ++ x)) fresh printable)) ∙ e

-- ---- characters

-- white space, and a space
spaced : (b : ℕ) (r : List ℕ) → class b ≡ space → (m : Mode) → lex m (32 ∷ r) ≡ lex m (b ∷ r)
unfolding lex
spaced b r e m = by m ∙ sym (ap (λ c. lex_byte m c b r (λ n. lex n r)) e)
  where
    by : (m : Mode) → lex_byte m space 32 r (λ n. lex n r) ≡ lex_byte m space b r (λ n. lex n r)
    by between = refl
    by in_word = refl
    by in_string = refl
    by in_escape = refl

blank : (c : ℕ) (r : List ℕ) → (c == 9 || c == 13) ≡ true → Stands (c ∷ r) (32 ∷ r)
unfolding content short_escape
blank c r e = elim (or_cases (c == 9) (c == 13) e) [
  | inl f ↦ subst (λ b. Stands (b ∷ r) (32 ∷ r)) (sym (eqb-true c 9 f)) (record { foreign = refl; read = tt; escaped = refl; ends = λ e. refl; lexed = λ m g. spaced 9 r refl m })
  | inr f ↦ subst (λ b. Stands (b ∷ r) (32 ∷ r)) (sym (eqb-true c 13 f)) (record { foreign = refl; read = tt; escaped = refl; ends = λ e. refl; lexed = λ m g. spaced 13 r refl m })
]

-- no character of an escape that isn't printable
no_escape : (f : ℕ) (x : List ℕ) → is_printable f ≡ false → content after_backslash (f ∷ x) ≡ None
unfolding content short_escape
no_escape f x n =
    let ne : (k : ℕ) → is_printable k ≡ true → (f == k) ≡ false = λ k p. ne_eqb f k (λ e. true≢false (sym p ∙ sym (ap is_printable e) ∙ n)) in
    rw (ne 117 refl, ne 34 refl, ne 92 refl, ne 47 refl, ne 98 refl, ne 102 refl, ne 110 refl, ne 114 refl, ne 116 refl)

-- bytes of a character that isn't printable, and its escape
foreign : (c f : ℕ) (fs r : List ℕ) → is_printable f ≡ false → Others (f ∷ fs) → Kept (content plain (f ∷ fs ++ r)) (content plain (units_text c ++ r)) → Stands (f ∷ fs ++ r) (units_text c ++ r)
unfolding lex
foreign c f fs r n o k = record { foreign = n; read = k; escaped = no_escape f (fs ++ r) n; ends = λ e. absurd (true≢false (sym e ∙ no_end f o.0)); lexed = by }
  where
    no_word : is_good (word (f ∷ fs ++ r)) ≡ true → ⊥
    no_word g = first (word_stops f (fs ++ r) (other_class f o.0) g)
      where
        first : {t : Token} → Stops (f ∷ fs ++ r) t → ⊥
        first ([], u, e, p, g, again) = true≢false (sym g ∙ ap ends_word (sym e) ∙ no_end f o.0)
        first (b ∷ w, u, e, p, g, again) = true≢false (sym (and_parts (is_printable b) _ p).0 ∙ sym (ap (λ l. is_printable (get_or l 0 0)) e) ∙ n)

    by : (m : Mode) → Good (lex m (f ∷ fs ++ r)) → lex m (units_text c ++ r) ≡ lex m (f ∷ fs ++ r)
    by between g = absurd (no_word (subst (λ c. Good (lex_byte between c f (fs ++ r) (λ m. lex m (fs ++ r)))) (other_class f o.0) g).0)
    by in_word g = units_in_word c r ∙ sym (past_in_word (f ∷ fs) r o)
    by in_string g = units_in_string c r ∙ sym (past_in_string (f ∷ fs) r o)
    by in_escape g = units_in_escape c r ∙ sym (past_in_string fs r o.1)

abbrev High : List ℕ → Type 0
High [] = ⊤
High (b ∷ bs) = (127 ≤ b) × High bs

either : (t : Bool) (x y : List ℕ) → High x → High y → High (cond t x y)
either true x y p q = p
either false x y p q = q

encode_high : (c : ℕ) → 127 ≤ c → High (encode_utf8 c)
unfolding encode
encode_high c h =
    either (nat_lt c 128) _ _ (h, tt) (either (nat_lt c 2048) _ _ (omega arith, (omega arith, tt)) (either (nat_lt c 65536) _ _ (omega arith, (omega arith, (omega arith, tt))) (omega arith, (omega arith, (omega arith, (omega arith, tt))))))

high_others : (bs : List ℕ) → High bs → Others bs
high_others [] h = tt
high_others (b ∷ bs) h = (inr (inr (inl h.0)), high_others bs h.1)

high_read : (bs r : List ℕ) → High bs → content plain (bs ++ r) ≡ prepend bs (content plain r)
unfolding content
high_read [] r h = by (content plain r)
  where
    by : (o : Option (List ℕ)) → o ≡ prepend [] o
    by None = refl
    by (Some s) = refl
high_read (b ∷ bs) r h =
    rw (ne_eqb b 34 (λ e. omega (arith, h.0)), ne_eqb b 92 (λ e. omega (arith, h.0)), le-ltb b 32 (omega (arith, h.0))) (ap (prepend (b ∷ [])) (high_read bs r h.1) ∙ by (content plain r))
  where
    by : (o : Option (List ℕ)) → prepend (b ∷ []) (prepend bs o) ≡ prepend (b ∷ bs) o
    by None = refl
    by (Some s) = refl

high : (c : ℕ) (l r : List ℕ) → IsScalar c → l ≡ encode_utf8 c → High l → Stands (l ++ r) (units_text c ++ r)
high c [] r s e h = absurd (omega (arith, ap length e, length-encode c, (len_utf8_bounds c).0))
high c (f ∷ fs) r s e h =
    let read : content plain (units_text c ++ r) ≡ content plain (f ∷ fs ++ r) = units_read c r s ∙ ap (λ l. prepend l (content plain r)) (sym e) ∙ sym (high_read (f ∷ fs) r h) in
    foreign c f fs r (high_printed f h.0) (high_others (f ∷ fs) h) (kept_from _ _ read)

control : (c : ℕ) (r : List ℕ) → c < 32 → is_plain c ≡ false → (c == 9 || c == 13) ≡ false → Stands (c ∷ r) (units_text c ++ r)
unfolding content
control c r l n b =
    let o : IsOther c = grind (arith, nat_tests) in
    foreign c c [] r (or_parts (c == 10) _ n).1 (o, tt) (rw (ne_eqb c 34 (λ e. omega arith), ne_eqb c 92 (λ e. omega arith), lt-ltb c 32 l) tt)

-- a character of JSON, and what stands for it
pub kept_character : (p : List ℕ) (c : ℕ) (r : List ℕ) (j : Json) → IsScalar c → document (p ++ (encode_utf8 c ++ r)) ≡ Some j → document (p ++ (character_text c ++ r)) ≡ Some j
kept_character p c r j s e = by (is_plain c) refl
  where
    ascii : c < 128 → document (p ++ (c ∷ r)) ≡ Some j
    ascii h = subst (λ l. document (p ++ (l ++ r)) ≡ Some j) (encode_ascii c h) e

    other_text : is_plain c ≡ false → (b : Bool) → (c == 9 || c == 13) ≡ b → document (p ++ (cond b (32 ∷ []) (units_text c) ++ r)) ≡ Some j
    other_text n true f = same_document (c ∷ r) (32 ∷ r) (blank c r f) p j (ascii (elim (or_cases (c == 9) (c == 13) f) [ inl g ↦ omega (arith, eqb-true c 9 g) | inr g ↦ omega (arith, eqb-true c 13 g) ]))
    other_text n false f = elim (ranges c (or_parts (c == 10) _ n).1) [
      | inl l ↦ same_document (c ∷ r) (units_text c ++ r) (control c r l n f) p j (ascii (omega arith))
      | inr h ↦ same_document (encode_utf8 c ++ r) (units_text c ++ r) (high c (encode_utf8 c) r s refl (encode_high c h)) p j e
    ]

    by : (b : Bool) → is_plain c ≡ b → document (p ++ (cond b (c ∷ []) (cond (c == 9 || c == 13) (32 ∷ []) (units_text c)) ++ r)) ≡ Some j
    by true f = ascii (omega (arith, small c f))
    by false f = other_text f (c == 9 || c == 13) refl
