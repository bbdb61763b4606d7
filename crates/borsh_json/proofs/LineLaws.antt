-- JSON without white space is one line.
use Rattle.std.proofs.{Common.{◌≡◌, inl, inr, ℕ, suc, zero, ◌+◌, ◌-◌, ◌/◌, ◌%◌, ◌<◌, ◌≤◌, Bool, true, false, cond, ◌&&◌, ◌||◌, ◌==◌, nat_le, ltb, List, [], ◌∷◌, ◌++◌, encode_utf8, All, refl, sym, ◌∙◌, ap, subst, arith}, lemmas.Bool.{and_from, and_parts, or_right, cases_eq, cases_lt}, lemmas.Bool.Decides.{nat_tests}, lemmas.List.Elements.{All-nil, All-cons, All-head, All-tail, All-append}, lemmas.Str.{encode_ascii}}
use Rattle.std.specs.{List.{list_all}, Char.{digit_char}}
use Rattle.json.specs.{Token.{Token, begin_object, end_object, begin_array, end_array, key, string, number, boolean, null, bad}, Json.{Json}, Print.{ArePrintable, IsPrintable, ends, escape, escape_byte, print, print_from, separator, token_text}, Tree.{HasNumbers, json_tokens}}
use Rattle.json.proofs.{Printed.Strings.{escape_byte_plain}, Printed.Trees.{ArePrintable-json_tokens}}
use Rattle.borsh_json.specs.Ascii.{IsInLine, IsPlain, character_text, is_plain, is_printable, unit_text}
use Rattle.borsh_json.proofs.WordLaws.{number_printed}

abbrev InLine : List ℕ → Type 0
InLine bs = All IsInLine bs

more : (b : ℕ) (bs : List ℕ) → 32 ≤ b → InLine bs → InLine (b ∷ bs)
more b bs h l = All-cons IsInLine b bs h l

none : InLine []
none = All-nil IsInLine

both : (xs ys : List ℕ) → InLine xs → InLine ys → InLine (xs ++ ys)
both xs ys a b = All-append IsInLine xs ys a b

-- ---- printable bytes
all_printed : (P : ℕ → Type 0) → ((b : ℕ) → is_printable b ≡ true → P b) → (bs : List ℕ) → list_all is_printable bs ≡ true → All P bs
all_printed P printable [] e = All-nil P
all_printed P printable (b ∷ bs) e =
    let p = and_parts (is_printable b) (list_all is_printable bs) e in
    All-cons P b bs (printable b p.0) (all_printed P printable bs p.1)

printed_line : (b : ℕ) → is_printable b ≡ true → 32 ≤ b
printed_line b e = grind (arith, nat_tests)

-- ---- strings
abbrev are_high : List ℕ → Bool
are_high [] = true
are_high (b ∷ bs) = nat_le 32 b && are_high bs

high : (bs : List ℕ) → are_high bs ≡ true → InLine bs
high [] e = none
high (b ∷ bs) e =
    let p = and_parts (nat_le 32 b) (are_high bs) e in
    let a : nat_le 32 b ≡ true = p.0 in
    more b bs (grind (arith, nat_tests)) (high bs p.1)

abbrev escapes_below : ℕ → Bool
escapes_below zero = true
escapes_below (suc n) = are_high (escape_byte n) && escapes_below n

escape_below : (n : ℕ) → escapes_below n ≡ true → (b : ℕ) → b < n → are_high (escape_byte b) ≡ true
escape_below zero e b h = absurd (omega arith)
escape_below (suc n) e b h =
    let p = and_parts _ _ e in
    elim (cases_eq b n) [ inl same ↦ ap (λ b. are_high (escape_byte b)) same ∙ p.0 | inr other ↦ escape_below n p.1 b (omega arith) ]

all_high : escapes_below 128 ≡ true
unfolding escape_byte
all_high = refl

escaped : (b : ℕ) → InLine (escape_byte b)
escaped b = elim (cases_lt b 128) [
  | inl h ↦ high (escape_byte b) (escape_below 128 all_high b h)
  | inr h ↦ subst InLine (sym (escape_byte_plain b (λ e. omega arith) (λ e. omega arith) (omega arith))) (more b [] (omega arith) none)
]

all_escaped : (bs : List ℕ) → InLine (escape bs)
all_escaped [] = none
all_escaped (b ∷ bs) = both (escape_byte b) (escape bs) (escaped b) (all_escaped bs)

-- ---- tokens
quoted_line : (s : List ℕ) → InLine (34 ∷ (escape s ++ 34 ∷ []))
quoted_line s = more 34 (escape s ++ 34 ∷ []) (omega arith) (both (escape s) (34 ∷ []) (all_escaped s) (high (34 ∷ []) refl))

token_line : (t : Token) → IsPrintable t → InLine (token_text t)
token_line begin_object h = high (123 ∷ []) refl
token_line end_object h = high (125 ∷ []) refl
token_line begin_array h = high (91 ∷ []) refl
token_line end_array h = high (93 ∷ []) refl
token_line (key s) h = both (34 ∷ (escape s ++ 34 ∷ [])) (58 ∷ []) (quoted_line s) (high (58 ∷ []) refl)
token_line (string s) h = quoted_line s
token_line (number s) h = all_printed IsInLine printed_line s (number_printed s h)
token_line (boolean true) h = high (116 ∷ 114 ∷ 117 ∷ 101 ∷ []) refl
token_line (boolean false) h = high (102 ∷ 97 ∷ 108 ∷ 115 ∷ 101 ∷ []) refl
token_line null h = high (110 ∷ 117 ∷ 108 ∷ 108 ∷ []) refl
token_line bad h = absurd h

comma : (b : Bool) → InLine (cond b (44 ∷ []) [])
comma true = high (44 ∷ []) refl
comma false = none

printed : (b : Bool) (ts : List Token) → ArePrintable ts → InLine (print_from b ts)
unfolding print_from ArePrintable
printed b [] h = none
printed b (t ∷ ts) h = both (separator b t) (token_text t ++ print_from (ends t) ts) (comma _) (both (token_text t) (print_from (ends t) ts) (token_line t h.0) (printed (ends t) ts h.1))

-- JSON that is printed without white space
pub compact_line : (j : Json) → HasNumbers j → All IsInLine (print (json_tokens j))
compact_line j h = printed false (json_tokens j) (ArePrintable-json_tokens j h)

-- the first character of such a text, and what follows it
all_behind : (xs ys : List ℕ) → InLine (xs ++ ys) → InLine ys
all_behind [] ys h = h
all_behind (x ∷ xs) ys h = all_behind xs ys (All-tail IsInLine x (xs ++ ys) h)

pub character_line : (c : ℕ) (all rest : List ℕ) → all ≡ encode_utf8 c ++ rest → All IsInLine all → (32 ≤ c) × All IsInLine rest
character_line c all rest e l = elim (cases_lt c 128) [
  | inl h ↦ (let m = subst InLine (e ∙ ap (λ l. l ++ rest) (encode_ascii c h)) l in (All-head IsInLine c rest m, All-tail IsInLine c rest m))
  | inr h ↦ (omega arith, all_behind (encode_utf8 c) rest (subst InLine e l))
]

-- ---- what stands for a character
unit_printed : (u : ℕ) → list_all is_printable (unit_text u) ≡ true
unit_printed u =
    let digit : (d : ℕ) → d < 16 → is_printable (digit_char d) ≡ true = λ d h. grind (arith, nat_tests) in
    and_from _ _ (digit (u / 4096 % 16) (omega arith)) (and_from _ _ (digit (u / 256 % 16) (omega arith)) (and_from _ _ (digit (u / 16 % 16) (omega arith)) (and_from _ _ (digit (u % 16) (omega arith)) refl)))

-- P holds of what stands for a character if it does of printable ASCII and, where that stands for itself, of the character
module _ (P : ℕ → Type 0) (printable : (b : ℕ) → is_printable b ≡ true → P b) where
  all_character : (c : ℕ) → (is_plain c ≡ true → P c) → All P (character_text c)
  all_character c own = by (is_plain c) refl (c == 9 || c == 13) (ltb c 65536)
    where
      by : (a : Bool) → is_plain c ≡ a → (b d : Bool)
          → All P (cond a (c ∷ []) (cond b (32 ∷ []) (cond d (unit_text c) (unit_text (55296 + (c - 65536) / 1024) ++ unit_text (56320 + c % 1024)))))
      by true e b d = All-cons P c [] (own e) (All-nil P)
      by false e true d = all_printed P printable (32 ∷ []) refl
      by false e false true = all_printed P printable (unit_text c) (unit_printed c)
      by false e false false =
          let a = 55296 + (c - 65536) / 1024 in
          let b = 56320 + c % 1024 in
          All-append P (unit_text a) (unit_text b) (all_printed P printable (unit_text a) (unit_printed a)) (all_printed P printable (unit_text b) (unit_printed b))

pub added_plain : (c : ℕ) (old : List ℕ) → All IsPlain old → All IsPlain (old ++ character_text c)
added_plain c old h = All-append IsPlain old (character_text c) h (all_character IsPlain (λ b e. or_right (b == 10) _ e) c (λ e. e))

pub added_line : (c : ℕ) (old : List ℕ) → 32 ≤ c → All IsInLine old → All IsInLine (old ++ character_text c)
added_line c old l h = All-append IsInLine old (character_text c) h (all_character IsInLine printed_line c (λ e. l))
