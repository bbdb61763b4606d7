-- The laws of keys: `==` of two keys holds exactly if the two are one value.
use Rattle.std.proofs.Common.{◌≡◌, ℕ, Bool, true, false, ◌&&◌, List, [], ◌∷◌, Some, None, nat_eq, refl, sym, ◌∙◌, ap, subst, true≢false}
use Rattle.std.specs.Bool.{Decides, beq}
use Rattle.std.specs.Cmp.Lexicographic.{pointwise}
use Rattle.std.specs.List.{AllZip}
use Rattle.std.specs.Option.{option_eq}
use Rattle.std.specs.Result.{result_eq}
use Rattle.std.specs.Ordering.{int_eq}
use Rattle.std.specs.Prelude.{Ok, Err}
use Rattle.borsh_codec.specs.Codec.{Codec}
use Rattle.borsh_codec.specs.Shapes.{unsigned, signed, unit, pair}
use Rattle.borsh_codec.specs.Maps.{KeyLaw, unit_entries}
use Rattle.borsh_codec.specs.Types.Sums.{bool, option, result_of}
use Rattle.borsh_codec.specs.Types.Texts.{text}
use Rattle.borsh_codec.proofs.Laws.Lists.{and_true}

pub number_key : (n : ℕ) → KeyLaw nat_eq (unsigned n)
number_key n a b = Rattle.std.specs.Cmp.unsigned_Decides a b

pub bool_key : KeyLaw beq bool
bool_key true true = (λ e. refl, λ h. refl)
bool_key true false = (λ e. absurd (true≢false (sym e)), λ h. absurd h)
bool_key false true = (λ e. absurd (true≢false (sym e)), λ h. absurd h)
bool_key false false = (λ e. refl, λ h. refl)

module _ {K : Type 0} {eq : K → K → Bool} (c : Codec K) (k : KeyLaw eq c) where
  pub option_key : KeyLaw (option_eq eq) (option c)
  option_key None None = (λ e. refl, λ h. refl)
  option_key None (Some b) = (λ e. absurd (true≢false (sym e)), λ h. absurd h)
  option_key (Some a) None = (λ e. absurd (true≢false (sym e)), λ h. absurd h)
  option_key (Some a) (Some b) = k a b

  -- lists of keys
  pub all_key : (es fs : List K) → Decides (pointwise eq es fs) (AllZip c.equivalent es fs)
  all_key [] [] = (λ e. tt, λ h. refl)
  all_key [] (b ∷ fs) = (λ e. absurd (true≢false (sym e)), λ h. absurd h)
  all_key (a ∷ es) [] = (λ e. absurd (true≢false (sym e)), λ h. absurd h)
  all_key (a ∷ es) (b ∷ fs) =
      let rest = all_key es fs in
      (λ e. (let h = and_true (eq a b) (pointwise eq es fs) e in ((k a b).0 h.0, rest.0 h.1)), λ h. ap (λ t. t && pointwise eq es fs) ((k a b).1 h.0) ∙ rest.1 h.1)

  -- keys of a set
  pub bare_key : (es fs : List K) → Decides (pointwise eq es fs) (AllZip (λ e f. c.equivalent e.0 f.0) (unit_entries es) (unit_entries fs))
  bare_key [] [] = (λ e. tt, λ h. refl)
  bare_key [] (b ∷ fs) = (λ e. absurd (true≢false (sym e)), λ h. absurd h)
  bare_key (a ∷ es) [] = (λ e. absurd (true≢false (sym e)), λ h. absurd h)
  bare_key (a ∷ es) (b ∷ fs) =
      let rest = bare_key es fs in
      (λ e. (let h = and_true (eq a b) (pointwise eq es fs) e in ((k a b).0 h.0, rest.0 h.1)), λ h. ap (λ t. t && pointwise eq es fs) ((k a b).1 h.0) ∙ rest.1 h.1)

pub pair_key : {K L : Type 0} {eq : K → K → Bool} {eql : L → L → Bool} (c : Codec K) (d : Codec L) → KeyLaw eq c → KeyLaw eql d → KeyLaw (λ x y. eq x.0 y.0 && eql x.1 y.1) (pair c d)
pair_key {eq = eq} {eql = eql} c d k l x y = (
  λ e. (let h = and_true (eq x.0 y.0) (eql x.1 y.1) e in ((k x.0 y.0).0 h.0, (l x.1 y.1).0 h.1)),
  λ h. ap (λ t. t && eql x.1 y.1) ((k x.0 y.0).1 h.0) ∙ (l x.1 y.1).1 h.1,
)

-- ---- parts in order

pub and_key : {a b : Bool} {P Q : Type 0} → Decides a P → Decides b Q → Decides (a && b) (P × Q)
and_key {a = a} {b = b} p q = (λ e. (let h = and_true a b e in (p.0 h.0, q.0 h.1)), λ h. ap (λ t. t && b) (p.1 h.0) ∙ q.1 h.1)

-- the tests of the first parts of several, before the test of those that are still to come
pub record DecidesBefore (b : Bool) (F : Type 0 → Type 0) : Type 1 where
  pub before : {c : Bool} {Q : Type 0} → Decides c Q → Decides (b && c) (F Q)

pub first_key : {b : Bool} {P : Type 0} → Decides b P → DecidesBefore b (λ Q. P × Q)
first_key p = record { before = λ q. and_key p q }

pub and_assoc : (a b c : Bool) → ((a && b) && c) ≡ (a && (b && c))
and_assoc true b c = refl
and_assoc false b c = refl

pub next_key : {b c : Bool} {F : Type 0 → Type 0} {P : Type 0} → DecidesBefore b F → Decides c P → DecidesBefore (b && c) (λ Q. F (P × Q))
next_key {b = b} {c = c} {F = F} {P = P} p q = record {
  before = λ {c = d} {Q = Q} r. subst (λ t. Decides t (F (P × Q))) (sym (and_assoc b c d)) (p.before (and_key q r));
}

pub last_key : {b c : Bool} {F : Type 0 → Type 0} {P : Type 0} → DecidesBefore b F → Decides c P → Decides (b && c) (F P)
last_key p q = p.before q

-- a test of one fact is a test of another that holds exactly if it does
pub key_as : {b : Bool} {P Q : Type 0} → Decides b P → (P → Q) → (Q → P) → Decides b Q
key_as d f g = (λ e. f (d.0 e), λ h. d.1 (g h))

-- ---- others

pub signed_key : (n : ℕ) → KeyLaw int_eq (signed n)
signed_key n a b = Rattle.std.specs.Cmp.signed_Decides a b

pub unit_key : KeyLaw (λ a b. true) unit
unit_key a b = (λ e. refl, λ h. refl)

pub text_key : (xs ys : List ℕ) → Decides (pointwise nat_eq xs ys) (text.equivalent xs ys)
text_key xs ys = all_key (unsigned 1) (number_key 1) xs ys

pub result_key : {A E : Type 0} {eq : A → A → Bool} {eqe : E → E → Bool} (a : Codec A) (e : Codec E) → KeyLaw eq a → KeyLaw eqe e → KeyLaw (result_eq eq eqe) (result_of a e)
result_key a e k l (Ok x) (Ok y) = k x y
result_key a e k l (Ok x) (Err y) = (λ e. absurd (true≢false (sym e)), λ h. absurd h)
result_key a e k l (Err x) (Ok y) = (λ e. absurd (true≢false (sym e)), λ h. absurd h)
result_key a e k l (Err x) (Err y) = l x y
