-- The JSON of a map's keys.
use Rattle.std.proofs.{Common.{◌≡◌, ◌⊎◌, inl, inr, ℕ, ◌≤◌, List, [], ◌++◌, length, Bool, true, false, refl, sym, ◌∙◌, ap, subst, arith, Option, Result, Ok, Err, MatchResult, nat_le, if◌then◌else◌, IsUtf8}, lemmas.Bool.Decides.{leb_tells}}
use Rattle.json.specs.Json.{number, string}
use Rattle.borsh_plan.specs.declared.named.Named.{Named}
use Rattle.borsh_json.specs.{declared.error.ReadError.{ReadError}, declared.numbers.Number.{Number}, Forms.{Form}, Frames.{DeniesRead, FailsRead, IsUnexpected}, Represents.{SaysFirst}, Table.{Lengths, Keys, texts, numbers, HasKind, utf8, whole, IsNumber, IsPrefixed, IsWhole, key_json}}
use Rattle.borsh_json.proofs.OpeningLaws.{said, one_string, refuses_plain}

-- a number's key is the JSON of the number
pub key_number : (n : ℕ) (s : List ℕ) (b : Bool) → ((nat_le 8 n ≡ true) × (8 ≤ n)) ⊎ ((nat_le 8 n ≡ false) × (n ≤ 8)) → nat_le 8 n ≡ b → IsNumber n s (if b then string s else number s)
key_number n s true (inl t) e = inr (t.1, refl)
key_number n s true (inr t) e = let q : true ≡ false = sym e ∙ t.0 in cc
key_number n s false (inl t) e = let q : false ≡ true = sym e ∙ t.0 in cc
key_number n s false (inr t) e = inl (t.1, refl)

pub tells : (n : ℕ) → ((nat_le 8 n ≡ true) × (8 ≤ n)) ⊎ ((nat_le 8 n ≡ false) × (n ≤ 8))
tells n = elim (leb_tells 8 n) [ inl h ↦ inl (h.0, h.1) | inr h ↦ inr (h.0, (let k = h.1 in omega arith)) ]

module _ (F : List ℕ → Option Form) (ns : List Named) (k : List ℕ) (keys : Keys) (s : List ℕ) where
  pub text_key : {A : Type 0} (l : Lengths) (t old new : List ℕ) → keys ≡ texts → HasKind F k (utf8 l) → t ≡ s → IsUtf8 t → (r : Result A ReadError) → MatchResult r (λ _. (own : List ℕ) × (new ≡ old ++ own) × IsPrefixed l (length t) t own) (λ e. DeniesRead IsUnexpected e ((own : List ℕ) × IsPrefixed l (length t) t own)) → MatchResult r (λ _. (own : List ℕ) × (new ≡ old ++ own) × SaysFirst F k (key_json keys s) own []) (λ e. FailsRead F k (key_json keys s) e)
  text_key l t old new q h e u (Ok x) d = (d.0, d.1, (utf8 l, h, (t, ap (λ (q : Keys). key_json q s) q ∙ ap (λ s. string s) (sym e), u, d.2, refl)))
  text_key l t old new q h e u (Err r) d = refuses_plain F ns k (key_json keys s) r (λ g.
      let y = said F ns k (key_json keys s) (utf8 l) h g in
      let z : y.2.0 ≡ t = one_string y.2.0 t (sym y.2.1 ∙ ap (λ (q : Keys). key_json q s) q ∙ ap (λ s. string s) (sym e)) in
      (y.0, subst (λ (t : List ℕ). IsPrefixed l (length t) t y.0) z y.2.3)) d

  pub number_key : (n : Number) (own : List ℕ) → keys ≡ numbers n.size → HasKind F k (whole n.size n.is_signed n.is_non_zero) → IsWhole n.size n.is_signed n.is_non_zero s own → SaysFirst F k (key_json keys s) own []
  number_key n own q h w = (whole n.size n.is_signed n.is_non_zero, h, (s, subst (λ (q : Keys). IsNumber n.size s (key_json q s)) (sym q) (key_number n.size s (nat_le 8 n.size) (tells n.size) refl), w, refl))
