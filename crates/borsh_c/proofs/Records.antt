-- Values one after another, with one more.
use Rattle.std.proofs.Common.{◌≡◌, ◌<◌, ◌≤◌, ◌+◌, ℕ, Some, String, string_bytes, List, [], ◌∷◌, ◌++◌, take, drop, set, get_or, length, Option, refl, ap, sym, subst, ◌∙◌, arith, append_assoc, suc, zero}
use Rattle.std.specs.Global.{Global}
use Rattle.std.proofs.lemmas.List.{append-nil, take_more, take_more_set}
use Rattle.borsh_walks.specs.Container.{Shape}
use Rattle.borsh_walks.specs.Definitions.{definitions_in}
use Rattle.borsh_definitions.specs.Codecs.{root_and_map}
use Rattle.borsh_plan.specs.Plan.{IsPlanOf, definitions_of, map_of, root_of}
use Rattle.borsh_values.specs.Membership.{BeginsWith, IsFront}
use Rattle.borsh_plan.specs.declared.plan.Plan.{Plan}
use Rattle.borsh_values.proofs.Answers.{none_ambiguous}
use Rattle.borsh_json.specs.declared.definitions.Definitions.{Definitions as Json}
use Rattle.borsh_json.specs.declared.error.JsonError.{JsonError}
use Rattle.borsh_c.specs.Answers.{Definitions, IsRefused, IsUnclear, Saying}
use Rattle.borsh_c.specs.Texts.{TellsNoValue}
use Rattle.borsh_c.specs.declared.many.Stop.{Stop}
use Rattle.borsh_c.specs.declared.many.Stop.TheVariants.{End, EmptyValue, Short, NoMember, Ambiguous}
use Rattle.borsh_c.specs.declared.refusal.NoAnswer.{NoAnswer}
use Rattle.borsh_json.specs.declared.output.LongNumbers.{LongNumbers}
use Rattle.borsh_c.specs.Many.{BeginWithLengths, HasNoLine, HaveLines, IsLineOf, IsNoLine, IsStop, NoMore, behind}
use Rattle.borsh_c.specs.Many.NoMore.{done, none, empty, unclear}
use Rattle.borsh_c.proofs.Told.{bytes_refused}

behind_more : (ns : List ℕ) (n : ℕ) (bytes : List ℕ) → behind (ns ++ (n ∷ [])) bytes ≡ drop n (behind ns bytes)
behind_more [] n bytes = refl
behind_more (m ∷ ns) n bytes = behind_more ns n (drop m bytes)

-- the lengths up to i + 1
pub passed : (lengths bytes left : List ℕ) (i : ℕ) → i < length lengths → left ≡ behind (take i lengths) bytes → drop (get_or lengths i 0) left ≡ behind (take (i + 1) lengths) bytes
passed lengths bytes left i h e =
    ap (drop (get_or lengths i 0)) e ∙ sym (behind_more (take i lengths) (get_or lengths i 0) bytes) ∙ ap (λ (ns : List ℕ). behind ns bytes) (sym (take_more lengths i 0 h))

module _ (C : List ℕ → Option Shape) (root : List ℕ) where
  begins_more : (ns : List ℕ) (n : ℕ) (bytes : List ℕ) → BeginWithLengths C root ns bytes → 0 < n → IsFront C root (behind ns bytes) n → BeginWithLengths C root (ns ++ (n ∷ [])) bytes
  begins_more [] n bytes b p f = (p, f, tt)
  begins_more (m ∷ ns) n bytes b p f = (b.0, b.1, begins_more ns n (drop m bytes) b.2 p f)

  -- the length of one more value is written behind the others
  pub measured : (lengths bytes left : List ℕ) (i n : ℕ) → i < length lengths → BeginWithLengths C root (take i lengths) bytes → left ≡ behind (take i lengths) bytes → 0 < n → IsFront C root left n → BeginWithLengths C root (take (i + 1) (set lengths i n)) bytes × (drop n left ≡ behind (take (i + 1) (set lengths i n)) bytes)
  measured lengths bytes left i n h b e p f =
      let more = sym (take_more_set lengths i n h) in
      let front = subst (λ (xs : List ℕ). IsFront C root xs n) e f in (
        subst (λ (ns : List ℕ). BeginWithLengths C root ns bytes) more (begins_more (take i lengths) n bytes b p front),
        ap (drop n) e ∙ sym (behind_more (take i lengths) n bytes) ∙ ap (λ (ns : List ℕ). behind ns bytes) more,
      )

  -- why the values were gone through no further, as the call tells it
  pub no_more : (room count : ℕ) (left : List ℕ) (stop : Stop) → 0 < count → IsStop C root room count left stop → NoMore C root room count left
  no_more room count left End p s = done s
  no_more room count left EmptyValue p s = empty p s
  no_more room count left (Short f) p s = none p s.none
  no_more room count left (NoMember f) p s = none p (subst (λ (bytes : List ℕ). BeginsWith C root bytes → ⊥) (append-nil left) (s []).none)
  no_more room count left (Ambiguous x) p s = unclear p (λ v u. none_ambiguous C x.now v u s)

  -- where there are none, they were gone through no further than to the beginning
  pub at_first : (lengths bytes : List ℕ) (room count : ℕ) (stop : Stop) → count ≤ 0 → IsStop C root room count (behind (take count lengths) bytes) stop → IsStop C root room 0 bytes stop
  at_first lengths bytes room zero stop h s = s
  at_first lengths bytes room (suc i) stop h s = absurd (omega (arith, h))

module _ (long : LongNumbers) (m : Definitions) (root : List ℕ) where
  lines_more : (ns values text : List ℕ) (n : ℕ) (line : List ℕ) → HaveLines long m root ns values text → IsLineOf long m root (take n (behind ns values)) line → HaveLines long m root (ns ++ (n ∷ [])) values ((text ++ line) ++ (10 ∷ []))
  lines_more [] values text n line h j = (line, [], ap (λ (t : List ℕ). (t ++ line) ++ (10 ∷ [])) h, j, refl)
  lines_more (k ∷ ns) values text n line h j = (
    h.0,
    (h.1 ++ line) ++ (10 ∷ []),
    ap (λ (t : List ℕ). (t ++ line) ++ (10 ∷ [])) h.2 ∙ (simp append_assoc),
    h.3,
    lines_more ns (drop k values) h.1 n line h.4 j,
  )

  -- one more line is written behind the others
  pub lined : (lengths values left text : List ℕ) (i : ℕ) (line : List ℕ) → i < length lengths → HaveLines long m root (take i lengths) values text → left ≡ behind (take i lengths) values → IsLineOf long m root (take (get_or lengths i 0) left) line → HaveLines long m root (take (i + 1) lengths) values ((text ++ line) ++ (10 ∷ []))
  lined lengths values left text i line h l e j =
      rw (take_more lengths i 0 h)
      (lines_more (take i lengths) values text (get_or lengths i 0) line l (subst (λ (xs : List ℕ). IsLineOf long m root (take (get_or lengths i 0) xs) line) e j))

-- of a plan whose kinds were found
pub by_json : (P : Definitions → List ℕ → Type 0) (d : Json) (l : Plan) → d.plan.now ≡ l → P (map_of d.plan.now) (root_of d.plan.now) → P (map_of l) (root_of l)
by_json P d l e p = subst (λ (l : Plan). P (map_of l) (root_of l)) e p

-- what holds by a plan holds by the map that it was made of
pub by_plan : (P : Saying) (plan : Plan) {root : List ℕ} {map : Definitions} → IsPlanOf map root plan → P (map_of plan) (root_of plan) → P map root
by_plan P plan {root} {map} h p = subst (λ (m : Definitions). P m root) h.map (subst (λ r. P (map_of plan) r) h.root p)

-- why the values were gone through no further than to the beginning
pub stopped : (plan : Plan) {root : List ℕ} {map : Definitions} → IsPlanOf map root plan → (lengths bytes : List ℕ) (count : ℕ) {stop here : Stop} → count ≤ 0 → stop ≡ here → IsStop (definitions_of plan) (root_of plan) (length lengths) count (behind (take count lengths) bytes) stop → IsStop (definitions_in map) root (length lengths) 0 bytes here
stopped plan {root} {map} h lengths bytes count {stop} {here} small is told =
    let all = length lengths in
    let found = by_plan (λ m r. IsStop (definitions_in m) r all count (behind (take count lengths) bytes) stop) plan h told in
    at_first (definitions_in map) root lengths bytes all count here small (subst (IsStop (definitions_in map) root all count (behind (take count lengths) bytes)) is found)

module _ {schema : List ℕ} (c : String Global × Definitions) (encoded : root_and_map.encoding c ≡ Some schema) (root : List ℕ) (named : root ≡ string_bytes c.0) where
  -- why the first value has no line
  pub line_refused : (values lengths : List ℕ) (count : ℕ) (e : JsonError) → count ≤ 0 → IsNoLine c.1 root lengths values count (Some e) → (t : NoAnswer) → TellsNoValue e t → IsRefused schema (HasNoLine values lengths) IsUnclear t
  line_refused values [] count e h n t told = absurd (omega (arith, n.0))
  line_refused values (k ∷ ks) zero e h n t told = bytes_refused c encoded root named (take k values) e n.2 n.3 t told
  line_refused values (k ∷ ks) (suc i) e h n t told = absurd (omega (arith, h))
