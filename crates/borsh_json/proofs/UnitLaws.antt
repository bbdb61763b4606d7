-- What the reader makes of characters that aren't printable ASCII, and of `\u` and four digits.
use Rattle.std.proofs.{Common.{◌≡◌, ◌⊎◌, inl, inr, ℕ, ◌+◌, ◌-◌, ◌*◌, ◌/◌, ◌%◌, ◌<◌, ◌≤◌, Bool, true, false, cond, ◌&&◌, ◌||◌, nat_lt, List, [], ◌∷◌, ◌++◌, encode_utf8, refl, ◌∙◌, ap, arith, ltb, ltb-true, ltb-false, lt-ltb}, lemmas.Bool.Decides.{nat_tests}, lemmas.Str.{digit_value-digit_char}}
use Rattle.std.specs.{Prelude.{⊤, Some, None, option_and_then}, Char.{IsScalar, digit_char, is_digit}}
use lib.Utf8.{scalar_cases}
use Rattle.json.specs.{Text.{content, plain, after_high, code_unit, prepend, is_high_surrogate, is_low_surrogate, surrogate_pair}, Word.{is_operator, is_space}, Lex.{Lexeme, other, class, Mode, in_word, in_string, in_escape, lex_byte, lex}}
use Rattle.borsh_json.specs.Ascii.{unit_text, units_text}

-- ---- which bytes have no meaning to the lexer

-- a letter or digit of a hexadecimal number, or no ASCII, or a control character that is no white space
abbrev pub IsOther : ℕ → Type 0
IsOther x = ((48 ≤ x) × (x < 58)) ⊎ (((97 ≤ x) × (x < 103)) ⊎ ((127 ≤ x) ⊎ ((x < 9) ⊎ (((11 ≤ x) × (x < 13)) ⊎ ((14 ≤ x) × (x < 32))))))

pub no_end : (x : ℕ) → IsOther x → (is_operator x || is_space x) ≡ false
no_end x h = grind (arith, nat_tests)

pub other_class : (x : ℕ) → IsOther x → class x ≡ other
other_class x h = grind (arith, nat_tests)

abbrev pub Others : List ℕ → Type 0
Others [] = ⊤
Others (b ∷ bs) = IsOther b × Others bs

-- such bytes leave a mode as it is
pub past : (m : Mode) → ((x : ℕ) (xs : List ℕ) (k : Mode → List Lexeme) → lex_byte m other x xs k ≡ k m) → (bs r : List ℕ) → Others bs → lex m (bs ++ r) ≡ lex m r
unfolding lex
past m stays [] r h = refl
past m stays (b ∷ bs) r h =
    ap (λ c. lex_byte m c b (bs ++ r) (λ n. lex n (bs ++ r))) (other_class b h.0) ∙ stays b (bs ++ r) (λ n. lex n (bs ++ r)) ∙ past m stays bs r h.1

pub past_in_string : (bs r : List ℕ) → Others bs → lex in_string (bs ++ r) ≡ lex in_string r
past_in_string = past in_string (λ x xs k. refl)

pub past_in_word : (bs r : List ℕ) → Others bs → lex in_word (bs ++ r) ≡ lex in_word r
past_in_word = past in_word (λ x xs k. refl)

-- ---- the digits of a code unit

digit_other : (d : ℕ) → d < 16 → IsOther (digit_char d)
digit_other d h = grind (arith, nat_tests)

digits : ℕ → List ℕ
digits u = digit_char (u / 4096 % 16) ∷ digit_char (u / 256 % 16) ∷ digit_char (u / 16 % 16) ∷ digit_char (u % 16) ∷ []

digits_other : (u : ℕ) → Others (digits u)
unfolding digits
digits_other u =
    (digit_other (u / 4096 % 16) (omega arith), (digit_other (u / 256 % 16) (omega arith), (digit_other (u / 16 % 16) (omega arith), (digit_other (u % 16) (omega arith), tt))))

is_digit_char : (d : ℕ) → d < 16 → is_digit (digit_char d) 16 ≡ true
is_digit_char d h = ap (λ v. nat_lt v 16) (digit_value-digit_char d (omega arith)) ∙ lt-ltb d 16 h

four_digits : (a b c d : ℕ) → a < 16 → b < 16 → c < 16 → d < 16 → code_unit (digit_char a) (digit_char b) (digit_char c) (digit_char d) ≡ Some (a * 4096 + b * 256 + c * 16 + d)
unfolding code_unit
four_digits a b c d p q r s =
    let va = digit_value-digit_char a (omega arith) in
    let vb = digit_value-digit_char b (omega arith) in
    let vc = digit_value-digit_char c (omega arith) in
    let vd = digit_value-digit_char d (omega arith) in
    λ i. cond (is_digit_char a p i && is_digit_char b q i && is_digit_char c r i && is_digit_char d s i) (Some (va i * 4096 + vb i * 256 + vc i * 16 + vd i)) None

unit_read : (u : ℕ) → u < 65536 → code_unit (digit_char (u / 4096 % 16)) (digit_char (u / 256 % 16)) (digit_char (u / 16 % 16)) (digit_char (u % 16)) ≡ Some u
unit_read u h =
    let e : u / 4096 % 16 * 4096 + u / 256 % 16 * 256 + u / 16 % 16 * 16 + u % 16 ≡ u = omega arith in
    four_digits (u / 4096 % 16) (u / 256 % 16) (u / 16 % 16) (u % 16) (omega arith) (omega arith) (omega arith) (omega arith) ∙ ap Some e

-- ---- what `\u` and four digits say

one_unit : (u : ℕ) (r : List ℕ) → u < 65536
    → content plain (unit_text u ++ r) ≡ cond (is_high_surrogate u) (content (after_high u) r) (cond (is_low_surrogate u) None (prepend (encode_utf8 u) (content plain r)))
unfolding content
one_unit u r h =
    ap (option_and_then (λ u. cond (is_high_surrogate u) (content (after_high u) r) (cond (is_low_surrogate u) None (prepend (encode_utf8 u) (content plain r))))) (unit_read u h)

second_unit : (h l : ℕ) (r : List ℕ) → l < 65536 → content (after_high h) (unit_text l ++ r) ≡ cond (is_low_surrogate l) (prepend (encode_utf8 (surrogate_pair h l)) (content plain r)) None
unfolding content
second_unit h l r small = ap (option_and_then (λ l. cond (is_low_surrogate l) (prepend (encode_utf8 (surrogate_pair h l)) (content plain r)) None)) (unit_read l small)

low_character : (c : ℕ) (r : List ℕ) → IsScalar c → c < 65536 → content plain (unit_text c ++ r) ≡ prepend (encode_utf8 c) (content plain r)
low_character c r s h =
    let range = scalar_cases c s in
    let high : is_high_surrogate c ≡ false = grind (arith, nat_tests) in
    let low : is_low_surrogate c ≡ false = grind (arith, nat_tests) in
    one_unit c r h ∙ (λ i. cond (high i) (content (after_high c) r) (cond (low i) None (prepend (encode_utf8 c) (content plain r))))

high_character : (c : ℕ) (r : List ℕ) → IsScalar c → 65536 ≤ c → content plain (unit_text (55296 + (c - 65536) / 1024) ++ (unit_text (56320 + c % 1024) ++ r)) ≡ prepend (encode_utf8 c) (content plain r)
high_character c r s h =
    let a = 55296 + (c - 65536) / 1024 in
    let b = 56320 + c % 1024 in
    let below : c < 1114112 = elim (scalar_cases c s) [ inl a ↦ omega arith | inr b ↦ b.1 ] in
    let first : (x : ℕ) → 55296 ≤ x → x < 56320 → is_high_surrogate x ≡ true = λ x p q. grind (arith, nat_tests) in
    let second : (x : ℕ) → 56320 ≤ x → x < 57344 → is_low_surrogate x ≡ true = λ x p q. grind (arith, nat_tests) in
    let same : surrogate_pair a b ≡ c = omega arith in
    one_unit a (unit_text b ++ r) (omega arith)
    ∙ ap (λ t. cond t (content (after_high a) (unit_text b ++ r)) (cond (is_low_surrogate a) None (prepend (encode_utf8 a) (content plain (unit_text b ++ r))))) (first a (omega arith) (omega arith))
    ∙ second_unit a b r (omega arith)
    ∙ (λ i. cond (second b (omega arith) (omega arith) i) (prepend (encode_utf8 (same i)) (content plain r)) None)

pub units_read : (c : ℕ) (r : List ℕ) → IsScalar c → content plain (units_text c ++ r) ≡ prepend (encode_utf8 c) (content plain r)
units_read c r s = by (ltb c 65536) refl
  where
    by : (b : Bool) → ltb c 65536 ≡ b → content plain (cond b (unit_text c) (unit_text (55296 + (c - 65536) / 1024) ++ unit_text (56320 + c % 1024)) ++ r) ≡ prepend (encode_utf8 c) (content plain r)
    by true e = low_character c r s (ltb-true c 65536 e)
    by false e = high_character c r s (ltb-false c 65536 e)

-- ---- and what the lexer makes of them

module _ (m n : Mode) (more : (u : ℕ) (r : List ℕ) → lex n (unit_text u ++ r) ≡ lex n r) (first : (u : ℕ) (r : List ℕ) → lex m (unit_text u ++ r) ≡ lex n r) where
  units_lexed : (c : ℕ) (r : List ℕ) → lex m (units_text c ++ r) ≡ lex n r
  units_lexed c r = by (ltb c 65536)
    where
      by : (b : Bool) → lex m (cond b (unit_text c) (unit_text (55296 + (c - 65536) / 1024) ++ unit_text (56320 + c % 1024)) ++ r) ≡ lex n r
      by true = first c r
      by false = first (55296 + (c - 65536) / 1024) (unit_text (56320 + c % 1024) ++ r) ∙ more (56320 + c % 1024) r

unit_in_string : (u : ℕ) (r : List ℕ) → lex in_string (unit_text u ++ r) ≡ lex in_string r
unfolding lex digits
unit_in_string u r = past_in_string (digits u) r (digits_other u)

unit_in_escape : (u : ℕ) (r : List ℕ) → lex in_escape (unit_text u ++ r) ≡ lex in_string r
unfolding lex digits
unit_in_escape u r = past_in_string (digits u) r (digits_other u)

unit_in_word : (u : ℕ) (r : List ℕ) → lex in_word (unit_text u ++ r) ≡ lex in_word r
unfolding lex digits
unit_in_word u r = past_in_word (digits u) r (digits_other u)

pub units_in_string : (c : ℕ) (r : List ℕ) → lex in_string (units_text c ++ r) ≡ lex in_string r
units_in_string = units_lexed in_string in_string unit_in_string unit_in_string

pub units_in_escape : (c : ℕ) (r : List ℕ) → lex in_escape (units_text c ++ r) ≡ lex in_string r
units_in_escape = units_lexed in_escape in_string unit_in_string unit_in_escape

pub units_in_word : (c : ℕ) (r : List ℕ) → lex in_word (units_text c ++ r) ≡ lex in_word r
units_in_word = units_lexed in_word in_word unit_in_word unit_in_word
