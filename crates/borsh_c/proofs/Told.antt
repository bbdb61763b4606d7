-- A refusal says what is right.
use Rattle.std.proofs.Common.{◌≡◌, inr, ℕ, List, Option, Some, String, string_bytes, codes, refl, subst, sym}
use Rattle.std.specs.Global.{Global}
use Rattle.borsh_definitions.specs.Codecs.{root_and_map}
use Rattle.borsh_walks.specs.Container.{Shape}
use Rattle.borsh_walks.specs.Definitions.{definitions_in}
use Rattle.borsh_values.specs.Membership.{IsUndecided}
use Rattle.borsh_values.proofs.Answers.{none_ambiguous}
use Rattle.borsh_json.specs.declared.error.JsonError.{JsonError}
use Rattle.borsh_json.specs.declared.error.JsonError.TheVariants.{OutOfMemory as NoJsonRoom, NoMember, NoValue, Ambiguous, NotJson, Refused}
use Rattle.borsh_json.specs.Errors.{IsNoJsonReason, IsTextReason}
use Rattle.borsh_json.specs.Forms.{forms_in}
use Rattle.borsh_json.specs.NoJson.{ShowsNoJson}
use Rattle.borsh_json.specs.NoValue.{ShowsNoValue, path_steps}
use Rattle.borsh_c.specs.declared.refusal.NoAnswer.{NoAnswer}
use Rattle.borsh_c.specs.declared.refusal.NoAnswer.TheVariants.{No, Malformed, OutOfMemory, Undecided}
use Rattle.borsh_c.specs.declared.refusal.Said.{Said}
use Rattle.borsh_c.specs.Answers.{Answers, Definitions, Saying, About, Gives, HasNoJson, IsNo, IsNoText, IsRefused, IsShort, IsUnclear, Tells, code_of, offset_in, told_offset, told_text, unclear_text}
use Rattle.borsh_c.specs.Answers.Answers.{yes, no, malformed, out_of_memory, undecided}
use Rattle.borsh_c.specs.Room.{IsGiven}
use Rattle.borsh_c.specs.Texts.{TellsNoValue}

-- ---- what is said of the container whose encoding the bytes are, and of the name of its root

module _ {schema : List ℕ} (c : String Global × Definitions) (encoded : root_and_map.encoding c ≡ Some schema) (root : List ℕ) (named : root ≡ string_bytes c.0) where
  abbrev C : List ℕ → Option Shape
  C = definitions_in c.1

  pub about_told : (P : Saying) → P c.1 root → About schema P
  about_told P p = (c, encoded, subst (λ (r : List ℕ). P c.1 r) named p)

  pub no_told : (N : Option ℕ → List ℕ → Saying) (U : List ℕ → Saying) {offset : Option ℕ} {text : List ℕ} → N offset text c.1 root → (r : NoAnswer) → Tells offset text r → IsRefused schema N U r
  no_told N U {text = text} n (No t) told =
      about_told (N t.offset (string_bytes t.text)) (subst (λ (x : List ℕ). N t.offset x c.1 root) (sym told.1) (subst (λ (o : Option ℕ). N o text c.1 root) (sym told.0) n))
  no_told N U n (Malformed t) told = absurd told
  no_told N U n OutOfMemory told = absurd told
  no_told N U n (Undecided t) told = absurd told

  -- what is said of a fault
  pub fault_told : (N : Option ℕ → List ℕ → Saying) (U : List ℕ → Saying) {offset : Option ℕ} (said : Said) → said.offset ≡ offset → N offset (string_bytes said.text) c.1 root → IsRefused schema N U (No said)
  fault_told N U said same n = about_told (N said.offset (string_bytes said.text)) (subst (λ (o : Option ℕ). N o (string_bytes said.text) c.1 root) (sym same) n)

  pub unclear_told : {text x : List ℕ} → IsUndecided C root x → text ≡ unclear_text x → About schema (IsUnclear text)
  unclear_told {text} {x} u t = about_told (IsUnclear text) (λ v d. none_ambiguous C x v d u, (x, u, t))

  -- what an error's offset says
  no_json : (value text : List ℕ) (e : JsonError) → IsNoJsonReason C root value e → ShowsNoJson (forms_in c.1) root value e → IsNo e → IsShort text → HasNoJson value (offset_in e) text c.1 root
  no_json value text NoJsonRoom reason shows told short = absurd told
  no_json value text (NoMember f) reason shows told short = (reason.0, (f, reason.1, refl), short)
  no_json value text NoValue reason shows told short = absurd reason
  no_json value text (Ambiguous name) reason shows told short = absurd told
  no_json value text (NotJson offset) reason shows told short = absurd reason
  no_json value text (Refused path refusal) reason shows told short = (reason.0, (path_steps path, refusal, shows.1), short)

  pub bytes_refused : (value : List ℕ) (e : JsonError) → IsNoJsonReason C root value e → ShowsNoJson (forms_in c.1) root value e → (r : NoAnswer) → TellsNoValue e r → IsRefused schema (HasNoJson value) IsUnclear r
  bytes_refused value e reason shows (No t) told =
      about_told (HasNoJson value t.offset (string_bytes t.text)) (subst (λ (o : Option ℕ). HasNoJson value o (string_bytes t.text) c.1 root) (sym told.0) (no_json value (string_bytes t.text) e reason shows told.1 told.2))
  bytes_refused value e reason shows (Malformed t) told = absurd told
  bytes_refused value e reason shows OutOfMemory told = tt
  bytes_refused value e reason shows (Undecided t) told = unclear_told (subst (IsNoJsonReason C root value) told.1 reason) told.2

  pub text_refused : (json : List ℕ) (e : JsonError) → IsTextReason C root json e → ShowsNoValue (forms_in c.1) root json e → (r : NoAnswer) → TellsNoValue e r → IsRefused schema (IsNoText json) IsUnclear r
  text_refused json e reason denies (No t) told = about_told (IsNoText json t.offset (string_bytes t.text)) (told.2, inr (e, told.1, told.0, reason, denies))
  text_refused json e reason denies (Malformed t) told = absurd told
  text_refused json e reason denies OutOfMemory told = tt
  text_refused json e reason denies (Undecided t) told = unclear_told (subst (IsTextReason C root json) told.1 reason).1 told.2

-- ---- what is told

-- a refusal that is right is an answer that is right, with its code, its offset and its text
pub refused_answers : (schema : List ℕ) (Yes : List ℕ → Saying) (N : Option ℕ → List ℕ → Saying) (U : List ℕ → Saying) (r : NoAnswer) → IsRefused schema N U r → {code : ℕ} → code ≡ code_of r → {offset : Option ℕ} → offset ≡ told_offset r → {room : List ℕ} {needed : ℕ} → IsGiven (told_text r) room needed → Gives (Answers schema Yes (N offset) U code) room needed
refused_answers schema Yes N U (No t) right code offset given =
    (string_bytes t.text, no (subst (λ (o : Option ℕ). About schema (N o (string_bytes t.text))) (sym offset) right) code, given)
refused_answers schema Yes N U (Malformed t) right code offset given = (string_bytes t, malformed right code, given)
refused_answers schema Yes N U OutOfMemory right code offset given = (codes "out of memory", out_of_memory refl code, given)
refused_answers schema Yes N U (Undecided t) right code offset given = (string_bytes t, undecided right code, given)

-- what is right is given
pub yes_given : {schema bytes answer room : List ℕ} {needed : ℕ} (Yes N U : List ℕ → Saying) → About schema (Yes answer) → bytes ≡ answer → IsGiven bytes room needed → Gives (Answers schema Yes N U 0) room needed
yes_given {schema} {bytes} Yes N U right same given = (bytes, yes (subst (λ (b : List ℕ). About schema (Yes b)) (sym same) right) refl, given)
