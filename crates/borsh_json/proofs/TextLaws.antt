-- What errors say of a text.
use Rattle.std.proofs.Common.{◌≡◌, inl, ℕ, List, [], ◌∷◌, ◌++◌, Option, Some, None, refl, sym, ◌∙◌, ap, subst, append_assoc, IsSome}
use Rattle.json.specs.{Token.{Token}, Lex.{tokens}, Json.{Json, document}}
use Rattle.std.specs.{BTreeMap.{BTreeMap}, Prelude.{String}}
use Rattle.borsh_walks.specs.{Container.{Shape}, Definitions.{definitions_in}, declared.definition.Definition.{Definition}}
use Rattle.borsh_walks.proofs.Forms.{shapes_are}
use Rattle.borsh_values.specs.{Membership.{IsUndecided}, declared.faults.Path.{Path}}
use Rattle.borsh_json.specs.{declared.error.JsonError.{JsonError}, declared.error.JsonError.TheVariants.{OutOfMemory, NoMember, NoValue, Ambiguous, NotJson, Refused}, declared.error.PartError.{PartError}, declared.error.PartError.TheVariants.{OutOfMemory as NoMemory, Refused as RefusedPart}, declared.error.Refusal.{Refusal}, declared.error.Refusal.TheVariants.{TooDeep}, Errors.{open_after, open_behind, IsUnreadable, IsTextRefusal, IsTextReason, error_of}, Forms.{Form, forms_in}, Frames.{IsUnread}, NoValue.{path_steps, FailsAt, SaysNothing, ShowsFall, ShowsNoValue}}

pub there : {A : Type 0} (o : Option A) → IsSome o → (a : A) × (o ≡ Some a)
there None s = absurd cc
there (Some a) s = (a, refl)

refusal_reason : (root text : List ℕ) (path : Path) (r : Refusal) → IsSome (document text) → IsUnreadable r → IsTextRefusal root text path r
refusal_reason root text path TooDeep s u = inl s
refusal_reason root text path refusal s u = (s, u)

-- a part's error, of a text that is JSON
module _ (F : List ℕ → Option Form) (C : List ℕ → Option Shape) (root text : List ℕ) (j : Json) (d : document text ≡ Some j) where
  pub part_denies : (e : PartError) → IsUnread F root j e → ShowsNoValue F root text (error_of e)
  part_denies NoMemory p = tt
  part_denies (RefusedPart path r) p = λ i q. (let e : Some i ≡ Some j = sym q ∙ d in let z : i ≡ j = cc in subst (λ (i : Json). (path.root.now ≡ root) × FailsAt F root i (path_steps path) r × SaysNothing F root i r) (sym z) (p.1, p.2, p.3))

  pub part_reason : (e : PartError) → IsSome (document text) → IsUnread F root j e → IsTextReason C root text (error_of e)
  part_reason NoMemory s p = tt
  part_reason (RefusedPart path r) s p = refusal_reason root text path r s p.0

-- the error of a check of the bytes that it says
pub fall_denies : (F : List ℕ → Option Form) (root text : List ℕ) (j : Json) → document text ≡ Some j → (e : JsonError) → ShowsFall F root j e → ShowsNoValue F root text e
fall_denies F root text j d OutOfMemory s = tt
fall_denies F root text j d (Ambiguous x) s = tt
fall_denies F root text j d (Refused path r) s = λ i q. (let e : Some i ≡ Some j = sym q ∙ d in
    let z : i ≡ j = cc in
    subst (λ (i : Json). (path.root.now ≡ root) × FailsAt F root i (path_steps path) r × SaysNothing F root i r) (sym z) (subst (λ (r : Refusal). (path.root.now ≡ root) × FailsAt F root j (path_steps path) r × SaysNothing F root j r) (sym s.0) (s.1, s.2, tt)))
fall_denies F root text j d e s = absurd s

pub fall_reason : {A : Type 0} (m : BTreeMap (String A) Definition) (root text : List ℕ) (j : Json) → document text ≡ Some j → (e : JsonError) → ShowsFall (forms_in m) root j e → IsTextReason (definitions_in m) root text e
fall_reason m root text j d OutOfMemory s = tt
fall_reason m root text j d (Ambiguous x) s = (subst (λ (o : Option Json). IsSome o) (sym d) refl, subst (λ C. IsUndecided C root x.now) (shapes_are m) s)
fall_reason m root text j d (Refused path r) s = refusal_reason root text path r (subst (λ (o : Option Json). IsSome o) (sym d) refl) (subst (λ (r : Refusal). IsUnreadable r) (sym s.0) tt)
fall_reason m root text j d e s = absurd s

-- ---- what is open behind tokens
pub open_more : (n : ℕ) (ts : List Token) (t : Token) → open_behind n (ts ++ t ∷ []) ≡ open_after (open_behind n ts) t
open_more n [] t = refl
open_more n (s ∷ ts) t = open_more (open_after n s) ts t

-- tokens that were read in front of those that are left, behind which so many arrays and objects are open
abbrev pub WereRead : List ℕ → List Token → ℕ → Type 0
WereRead text left n = (front : List Token) × (tokens text ≡ front ++ left) × (open_behind 0 front ≡ n)

pub read_more : (text old new : List Token) (n m : ℕ) (t : Token) → old ≡ t ∷ new → open_after n t ≡ m → (front : List Token) × (text ≡ front ++ old) × (open_behind 0 front ≡ n) → (front : List Token) × (text ≡ front ++ new) × (open_behind 0 front ≡ m)
read_more text old new n m t e o r = (
  r.0 ++ t ∷ [],
  r.1 ∙ ap (λ l. r.0 ++ l) e ∙ sym (append_assoc r.0 (t ∷ []) new),
  open_more 0 r.0 t ∙ ap (λ n. open_after n t) r.2 ∙ o,
)
