-- What is said of the rules and of the size.
use Rattle.std.proofs.Common.{arith, ◌≡◌, ◌∙◌, ap, ℕ, ◌+◌, ◌%◌, ◌^◌, ◌<◌, ◌&&◌, leb, ltb, Bool, true, false, List, [], ◌∷◌, ◌++◌, Option, Some, None, Err, codes, decimal, refl, rules, subst, sym}
use Rattle.std.specs.List.{list_all}
use Rattle.std.proofs.lemmas.Fmt.{decimal_by_steps}
use Rattle.std.proofs.lemmas.List.Folds.{list_all-append}
use Rattle.borsh_walks.specs.Answers.{SaysRules, SaysSize, SaysUnsized}
use Rattle.borsh_walks.specs.Answers.SaysUnsized.{overflows, recurs, misses}
use Rattle.borsh_walks.specs.Container.{Shape, Rule, zst_sequence, tag_too_wide, tag_too_narrow, tag_not_power_of_two, missing_definition, empty_length_range}
use Rattle.borsh_walks.specs.Errors.{rule_name}
use Rattle.borsh_walks.specs.SizeOutcome.{AnswersSize}
use Rattle.borsh_walks.specs.declared.error.SchemaMaxSerializedSizeError.{SchemaMaxSerializedSizeError}
use Rattle.borsh_walks.specs.declared.error.SchemaMaxSerializedSizeError.TheVariants.{OutOfMemory}

-- printable ASCII
abbrev pub is_printable : ℕ → Bool
is_printable b = leb 32 b && ltb b 127

rule_plain : (r : Rule) → list_all is_printable (codes "invalid " ++ rule_name r) ≡ true
rule_plain zst_sequence = refl
rule_plain tag_too_wide = refl
rule_plain tag_too_narrow = refl
rule_plain tag_not_power_of_two = refl
rule_plain missing_definition = refl
rule_plain empty_length_range = refl

digit_plain : (d : ℕ) → d < 10 → list_all is_printable ((48 + d) ∷ []) ≡ true
digit_plain d h = search rules

pub decimal_plain : (n : ℕ) → n < 2 ^ 64 → list_all is_printable (decimal n) ≡ true
decimal_plain n h =
    decimal_by_steps (λ m ds. list_all is_printable ds ≡ true) digit_plain
    (λ m ds l p. list_all-append is_printable ds ((48 + m % 10) ∷ []) ∙ ap (λ t. t && list_all is_printable ((48 + m % 10) ∷ [])) p ∙ digit_plain (m % 10) (omega arith)) n h

module _ (C : List ℕ → Option Shape) (root : List ℕ) where
  -- a size's error, which isn't want of memory, says why there is none
  pub unsized : (e : SchemaMaxSerializedSizeError) {size : Option ℕ} {w : List ℕ × Option (List ℕ)} → AnswersSize C root (Err e) → (e ≡ OutOfMemory → ⊥) → size ≡ None → SaysUnsized C root w → SaysSize C root size w
  unsized e {w = w} a other none u = subst (λ s. SaysSize C root s w) (sym none) ((λ n m l. other ((a.complete n m).fits l)), u)

  -- the words are printable ASCII
  pub rules_plain : (is_valid : Bool) (w : List ℕ × Option (List ℕ)) → SaysRules C root is_valid w → list_all is_printable w.0 ≡ true
  rules_plain true w p = ap (λ w. list_all is_printable w.0) p.1
  rules_plain false w p = ap (λ w. list_all is_printable w.0) p.4 ∙ rule_plain p.1

  pub size_plain : (size : Option ℕ) (w : List ℕ × Option (List ℕ)) → SaysSize C root size w → list_all is_printable w.0 ≡ true
  size_plain (Some n) w p = ap (λ w. list_all is_printable w.0) p.2 ∙ decimal_plain n p.1
  size_plain None w p =
      elim p.1 [
        | overflows k g h e ↦ ap (λ w. list_all is_printable w.0) e
        | recurs h e ↦ ap (λ w. list_all is_printable w.0) e
        | misses x g h e ↦ ap (λ w. list_all is_printable w.0) e
      ]
