-- The answers about a container.
use Rattle.std.proofs.Common.{◌≡◌, ◌≢◌, ℕ, ◌+◌, ◌%◌, ◌^◌, ◌<◌, ◌∙◌, ap, true, true≢false, List, [], ◌++◌, Option, None, Some, codes, refl, sym, subst, arith, decimal}
use Rattle.std.specs.List.{list_all}
use Rattle.std.proofs.lemmas.Fmt.{decimal_by_steps}
use Rattle.std.proofs.lemmas.List.Elements.{All-nil, All-push, All-append}
use Rattle.std.proofs.lemmas.List.Sums.{AllPass-from_list_all}
use Rattle.borsh_io.specs.Lines.{IsLine}
use Rattle.borsh_walks.specs.Answers.{spoken}
use Rattle.borsh_walks.specs.declared.counted.Expansions.{Expansions}
use Rattle.borsh_walks.proofs.Spoken.{is_printable}
use Rattle.borsh_check_lines.specs.Containers.{counts_text}
use Rattle.borsh_check_lines.specs.Digits.{digits_of}
use Rattle.borsh_check_lines.proofs.OneLineSteps.{line_of_text, line_of_digits}

joined : (xs ys : List ℕ) → IsLine xs → IsLine ys → IsLine (xs ++ ys)
joined xs ys p q = All-append (λ b. b ≢ 10) xs ys p q

pub line_of_decimal : (n : ℕ) → n < 2 ^ 64 → IsLine (decimal n)
line_of_decimal n h =
    decimal_by_steps (λ m ds. IsLine ds) (λ m l. All-push (λ b. b ≢ 10) [] (48 + m) (All-nil (λ b. b ≢ 10)) (λ e. omega (arith, e)))
    (λ m ds l p. All-push (λ b. b ≢ 10) ds (48 + m % 10) p (λ e. omega (arith, e))) n h

line_of_printable : (xs : List ℕ) → list_all is_printable xs ≡ true → IsLine xs
line_of_printable xs p k d low e = true≢false (sym (AllPass-from_list_all is_printable xs p k d low) ∙ ap is_printable e)

-- words, and a name as digits behind them
pub line_of_spoken : (w : List ℕ × Option (List ℕ)) → list_all is_printable w.0 ≡ true → IsLine (spoken digits_of w)
line_of_spoken (text, None) p = line_of_printable text p
line_of_spoken (text, Some name) p =
    let named = joined (codes " ") (digits_of name) (line_of_text (codes " ") refl) (line_of_digits name) in
    joined text (codes " " ++ digits_of name) (line_of_printable text p) named

pub line_of_counts : {out : List ℕ} (e : Expansions) → e.rules < 2 ^ 64 → e.zero < 2 ^ 64 → e.size < 2 ^ 64 → out ≡ counts_text e → IsLine out
line_of_counts e r z s i =
    let size = joined (codes " size ") (decimal e.size) (line_of_text (codes " size ") refl) (line_of_decimal e.size s) in
    let zero = joined (decimal e.zero) (codes " size " ++ decimal e.size) (line_of_decimal e.zero z) size in
    let zeros = joined (codes " zero ") (decimal e.zero ++ (codes " size " ++ decimal e.size)) (line_of_text (codes " zero ") refl) zero in
    let rules = joined (decimal e.rules) (codes " zero " ++ (decimal e.zero ++ (codes " size " ++ decimal e.size))) (line_of_decimal e.rules r) zeros in
    subst IsLine (sym i) (joined (codes "rules ") (decimal e.rules ++ (codes " zero " ++ (decimal e.zero ++ (codes " size " ++ decimal e.size)))) (line_of_text (codes "rules ") refl) rules)
