-- Lines that grow.
use Rattle.std.proofs.Common.{◌≡◌, ◌≢◌, ℕ, zero, suc, ◌/◌, ◌%◌, ◌==◌, Bool, true, false, cond, List, [], ◌∷◌, ◌++◌, get_or, codes, refl, sym, ◌∙◌, ap, subst, arith, append_assoc, append-nil, true≢false, eq-eqb}
use Rattle.std.specs.List.{AllByRecursion}
use Rattle.std.proofs.lemmas.List.Elements.{All-nil, All-push, All-append, All-from_recursion}
use Rattle.hex.specs.Hex.{encode_with, encode_lower, lower_digits}
use Rattle.borsh_check_lines.specs.Digits.{digits_of}
use Rattle.borsh_io.specs.Lines.{IsLine}
use Rattle.borsh_check_lines.specs.Lines.{IsErrorLine}

pub error_line_none : {out : List ℕ} → out ≡ codes "error " → IsErrorLine out
error_line_none e = record { text = []; is = e ∙ sym (append-nil (codes "error ")); line = All-nil (λ b. b ≢ 10) }

no_feed : (b : ℕ) → cond (b == 10) 32 b ≢ 10
no_feed b = by (b == 10) refl
  where
    by : (t : Bool) → b == 10 ≡ t → cond t 32 b ≢ 10
    by true i e = absurd (omega (arith, e))
    by false i e = true≢false (sym (eq-eqb b 10 e) ∙ i)

pub error_line_more : {out more : List ℕ} (b : ℕ) {c : ℕ} → IsErrorLine out → more ≡ out ++ c ∷ [] → c ≡ cond (b == 10) 32 b → IsErrorLine more
error_line_more b {c = c} p e shown = record {
  text = p.text ++ c ∷ [];
  is = e ∙ ap (λ l. l ++ c ∷ []) p.is ∙ append_assoc (codes "error ") p.text (c ∷ []);
  line = All-push (λ b. b ≢ 10) p.text c p.line (λ z. no_feed b (sym shown ∙ z));
}

-- ---- digits

abbrev pub has_no_feed : List ℕ → Bool
has_no_feed [] = true
has_no_feed (b ∷ xs) = cond (b == 10) false (has_no_feed xs)

by_recursion : (xs : List ℕ) → has_no_feed xs ≡ true → AllByRecursion (λ b. b ≢ 10) xs
by_recursion [] e = tt
by_recursion (b ∷ xs) e = by (b == 10) refl (by_recursion xs) e
  where
    by : (t : Bool) → b == 10 ≡ t → (has_no_feed xs ≡ true → AllByRecursion (λ b. b ≢ 10) xs) → cond t false (has_no_feed xs) ≡ true → AllByRecursion (λ b. b ≢ 10) (b ∷ xs)
    by true i rest f = absurd (cc)
    by false i rest f = (λ z. true≢false (sym (eq-eqb b 10 z) ∙ i), rest f)

-- a text that computes
pub line_of_text : (xs : List ℕ) → has_no_feed xs ≡ true → IsLine xs
line_of_text xs e = All-from_recursion (λ b. b ≢ 10) xs (by_recursion xs e)

digit : (t : List ℕ) (i : ℕ) → AllByRecursion (λ b. b ≢ 10) t → get_or t i 0 ≢ 10
digit [] i h = λ e. absurd (cc)
digit (b ∷ t) zero h = h.0
digit (b ∷ t) (suc i) h = digit t i h.1

encoded : (bytes : List ℕ) → AllByRecursion (λ b. b ≢ 10) (encode_lower bytes)
unfolding encode_with
encoded [] = tt
encoded (b ∷ bytes) = let d = by_recursion lower_digits refl in (digit lower_digits (b / 16) d, (digit lower_digits (b % 16) d, encoded bytes))

pub line_of_digits : (bytes : List ℕ) → IsLine (digits_of bytes)
line_of_digits [] = line_of_text (codes "-") refl
line_of_digits (b ∷ bytes) = All-from_recursion (λ c. c ≢ 10) (encode_lower (b ∷ bytes)) (encoded (b ∷ bytes))

pub line_of_ok : {out : List ℕ} (bytes : List ℕ) → out ≡ codes "ok " ++ digits_of bytes → IsLine out
line_of_ok bytes e = subst IsLine (sym e) (All-append (λ b. b ≢ 10) (codes "ok ") (digits_of bytes) (line_of_text (codes "ok ") refl) (line_of_digits bytes))

pub line_of_error : {out : List ℕ} → IsErrorLine out → IsLine out
line_of_error p = subst IsLine (sym p.is) (All-append (λ b. b ≢ 10) (codes "error ") p.text (line_of_text (codes "error ") refl) p.line)
