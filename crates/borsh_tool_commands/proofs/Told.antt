-- How texts are printed.
use Rattle.std.proofs.Common.{◌≡◌, ◌∙◌, ap, ℕ, ◌/◌, ◌%◌, ◌^◌, ◌<◌, ◌==◌, ◌&&◌, ◌||◌, Bool, true, false, if◌then◌else◌, slice_index_or, All, List, [], ◌∷◌, ◌++◌, Option, Result, Ok, Err, refl, sym, subst, decimal, flat_map}
use Rattle.std.specs.BTreeMap.{BTreeMap}
use Rattle.std.specs.Global.{Global}
use Rattle.std.specs.Prelude.{OnOk, String, codes}
use Rattle.std.specs.List.{list_all}
use Rattle.std.specs.Result.{is_ok}
use Rattle.std.proofs.lemmas.List.Elements.{All-append, All-same}
use Rattle.std.proofs.lemmas.List.Sums.{AllPass-from_list_all}
use Rattle.borsh_walks.specs.Answers.{IsSaid}
use Rattle.borsh_walks.specs.Container.{Member}
use Rattle.borsh_walks.specs.Definitions.{definitions_in}
use Rattle.borsh_walks.specs.declared.definition.Definition.{Definition}
use Rattle.borsh_walks.proofs.Spoken.{decimal_plain}
use Rattle.borsh_tool_commands.specs.Answers.{AnswersMember, line_of, words_line}
use Rattle.borsh_tool_commands.specs.Answers.AnswersMember.{member, no_member, not_canonical}
use Rattle.borsh_json.specs.Ascii.{IsPlain, is_printable}
use Rattle.borsh_json.specs.Forms.{forms_in}
use Rattle.borsh_json.specs.InOrder.{Step, IsRepresented}
use Rattle.borsh_json.specs.NoJson.{RefusesBytes}
use Rattle.borsh_json.specs.declared.error.Refusal.{Refusal}
use Rattle.borsh_json.specs.declared.error.Refusal.TheVariants.{TooDeep}
use Rattle.std.specs.Char.{digit_char}
use Rattle.borsh_tool_commands.specs.Plain.{escaped}

-- printable ASCII is printed as itself
pub printable_escaped : (bs : List ℕ) → list_all is_printable bs ≡ true → flat_map escaped bs ≡ bs
printable_escaped [] h = refl
printable_escaped (b ∷ bs) h = one (is_printable b) refl h (λ h. printable_escaped bs h)
  where
    one : (c : Bool) → is_printable b ≡ c → (c && list_all is_printable bs) ≡ true → (list_all is_printable bs ≡ true → flat_map escaped bs ≡ bs) → flat_map escaped (b ∷ bs) ≡ b ∷ bs
    one true e h f = ap (λ c. (if c then b ∷ [] else 92 ∷ 120 ∷ digit_char (b / 16) ∷ digit_char (b % 16) ∷ []) ++ flat_map escaped bs) e ∙ ap (λ l. b ∷ l) (f h)
    one false e h f = cc

pub printable_plain : (bs : List ℕ) → list_all is_printable bs ≡ true → All IsPlain bs
printable_plain bs h k d low = or_right (slice_index_or bs k d == 10) (is_printable (slice_index_or bs k d)) (AllPass-from_list_all is_printable bs h k d low)
  where
    or_right : (a b : Bool) → b ≡ true → (a || b) ≡ true
    or_right true b e = refl
    or_right false b e = e

-- a text to which such a text was added, or nothing
pub plain_grown : (old xs new : List ℕ) (added : Bool) → All IsPlain old → All IsPlain xs → new ≡ (if added then old ++ xs else old) → All IsPlain new
plain_grown old xs new true p q e = All-same IsPlain new (old ++ xs) e (All-append IsPlain old xs p q)
plain_grown old xs new false p q e = All-same IsPlain new old e p

pub added_as : {E : Type 0} (old xs ys new : List ℕ) (r : Result (Unit {0}) E) → new ≡ (if is_ok r then old ++ xs else old) → xs ≡ ys → OnOk r (new ≡ old ++ ys)
added_as old xs ys new (Ok v) e q = e ∙ ap (λ l. old ++ l) q
added_as old xs ys new (Err x) e q = tt

-- and so is a number
pub decimal_escaped : (n : ℕ) → n < 2 ^ 64 → flat_map escaped (decimal n) ≡ decimal n
decimal_escaped n h = printable_escaped (decimal n) (decimal_plain n h)

-- words as a line
pub line_said : (P : List ℕ × Option (List ℕ) → Type 0) (w : List ℕ × Option (List ℕ)) {out : List ℕ} → P w → list_all is_printable w.0 ≡ true → out ≡ words_line (flat_map escaped w.0, w.1) → IsSaid words_line P out
line_said P w p plain e = (w, p, e ∙ ap (λ text. words_line (text, w.1)) (printable_escaped w.0 plain))

-- a line that answers, by the name of the root
module _ (m : BTreeMap (String Global) Definition) {root name bytes out : List ℕ} {is_yes : Bool} where
  pub yes_told : root ≡ name → Member (definitions_in m) root bytes → IsRepresented (forms_in m) root bytes → (is_yes ≡ true) × (out ≡ line_of (codes "member")) → AnswersMember m name bytes true is_yes out
  yes_told same is r h = member (subst (λ (r : List ℕ). Member (definitions_in m) r bytes) same is) (λ e. subst (λ (x : List ℕ). IsRepresented (forms_in m) x bytes) same r) h.0 h.1

  pub no_told : (why : List ℕ) (strict : Bool) → root ≡ name → (Member (definitions_in m) root bytes → ⊥) → (is_yes ≡ false) × (out ≡ line_of (codes "no member: " ++ why)) → AnswersMember m name bytes strict is_yes out
  no_told why strict same none h = no_member why (λ is. none (subst (λ (r : List ℕ). Member (definitions_in m) r bytes) (sym same) is)) h.0 h.1

  pub refusal_told : (why : List ℕ) (path : List Step) (refusal : Refusal) → root ≡ name → Member (definitions_in m) root bytes → RefusesBytes (forms_in m) root bytes path refusal → (IsRepresented (forms_in m) root bytes → refusal ≡ TooDeep) → (is_yes ≡ false) × (out ≡ line_of (codes "not canonical: " ++ why)) → AnswersMember m name bytes true is_yes out
  refusal_told why path refusal same is r f h = not_canonical why path refusal (subst (λ (r : List ℕ). Member (definitions_in m) r bytes) same is) (subst (λ (x : List ℕ). RefusesBytes (forms_in m) x bytes path refusal) same r) (subst (λ (x : List ℕ). IsRepresented (forms_in m) x bytes → refusal ≡ TooDeep) same f) refl h.0 h.1
