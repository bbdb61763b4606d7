-- The order of the keys of objects is that of their bytes.
use Rattle.std.proofs.Common.{◌≡◌, ◌⊎◌, inl, inr, ℕ, ◌<◌, ◌^◌, List, [], ◌∷◌, ◌++◌, length, Bool, true, false, Option, refl, sym, ◌∙◌, ap, subst, arith, ℤ, ◌<ℤ◌, pos, codes, nat_le, if◌then◌else◌, int_cmp, Ordering, Less, Equal, Greater}
use Rattle.std.specs.{Cmp.{int_ranks}, Ordering.{MatchOrdering}, Str.Parse.{signed_digits_value}}
use Rattle.json.specs.Json.{Json, null, number, string}
use Rattle.borsh_walks.specs.Container.{tag}
use Rattle.borsh_plan.specs.declared.named.Named.{Named}
use Rattle.borsh_values.proofs.MemberLaws.{same_front}
use Rattle.borsh_json.specs.{declared.kinds.KeyKind.{KeyKind}, declared.kinds.KeyKind.TheVariants.{Text as TextKeys, Number as NumberKeys}, Forms.{Form, primitive, sequence}, Ordered.{numbers as number_values, a_value, IsAtLeast}, Places.{AreKeysOf}, Represents.{SaysFirst}, Table.{Lengths, Keys, texts, numbers, AreKeys, a_text, HasKind, utf8, whole, InRange, Part, Says, key_json, key_order}}
use Rattle.borsh_json.proofs.{DescentLaws.{numbers_at_least, texts_at_least}, FoundLaws.{full_list}, KindOrders.{text_order, number_order}, NameLaws.{keys_full}, NumberLaws.{value_of}, OpeningLaws.{one_string}, OrderLaws.{front, value_fronts, some_bytes, texts_tell}, OrderNumbers.{as_naturals, long_tag, same_cmp, sign_tested}, RepresentsLaws.{kind_one, kind_small, short}}

as_number : (b : Bool) (s t : List ℕ) → (if b then string s else number s) ≡ number t → s ≡ t
as_number true s t e = cc
as_number false s t e = cc

as_string : (b : Bool) (s t : List ℕ) → (if b then string s else number s) ≡ string t → s ≡ t
as_string true s t e = cc
as_string false s t e = cc

module _ (F : List ℕ → Option Form) (k : List ℕ) where
  -- the bytes of a text
  text_bytes : (s own : List ℕ) → AreKeys F k texts → SaysFirst F k (key_json texts s) own [] → (length s < 256 ^ 4) × (own ≡ tag 4 (pos (length s)) ++ s)
  text_bytes s own a f =
      let l : Lengths = record { width = 4; least = 0; greatest = 4294967295 } in
      let h : HasKind F k (utf8 l) = inr (full_list F a.1, sequence 4 0 4294967295 (codes "u8"), a.1, a_text (a.0, refl) a.2) in
      let r = subst (λ kind. Says F kind (string s) own []) (kind_one F f.1 h) f.2 in
      let e = one_string s r.0 r.1 in
      let p : 256 ^ 4 ≡ 4294967296 = refl in
      (let g = r.3.1 in let q = ap (λ s. length s) e in omega (arith, g, q, p), r.3.2 ∙ ap (λ s. tag 4 (pos (length s)) ++ s) (sym e))

  -- those of a number
  number_bytes : (n : ℕ) (signed non_zero : Bool) (s own : List ℕ) → HasKind F k (whole n signed non_zero) → SaysFirst F k (key_json (numbers n) s) own [] → (z : ℤ) × InRange n signed z × (own ≡ tag n z) × (signed_digits_value 10 s ≡ z)
  number_bytes n signed non_zero s own h f =
      let r = subst (λ kind. Says F kind (key_json (numbers n) s) own []) (kind_one F f.1 h) f.2 in
      let e : s ≡ r.0 = elim r.1 [ inl p ↦ as_number (nat_le 8 n) s r.0 p.1 | inr p ↦ as_string (nat_le 8 n) s r.0 p.1 ] in
      let w = r.2 in
      (w.0, w.3, w.2, ap (λ s. signed_digits_value 10 s) (e ∙ w.1) ∙ value_of w.0 (short n signed w.0 (kind_small F h n signed non_zero refl) w.3))

  pub keys_at_least : (ns : List Named) (f : Form) (kind : KeyKind) (keys : Keys) (s t own other bs cs : List ℕ) → AreKeys F k keys → AreKeysOf F ns k f kind keys → SaysFirst F k (key_json keys s) own [] → SaysFirst F k (key_json keys t) other [] → (key_order keys (s, null) (t, null) ≡ Less → ⊥) → IsAtLeast F (a_value k ∷ []) (own ++ bs) (other ++ cs)
  keys_at_least ns f TextKeys keys s t own other bs cs a o p q n =
      let b : AreKeys F k texts = subst (λ (keys : Keys). AreKeys F k keys) o.0 a in
      let x = text_bytes s own b (subst (λ (keys : Keys). SaysFirst F k (key_json keys s) own []) o.0 p) in
      let y = text_bytes t other b (subst (λ (keys : Keys). SaysFirst F k (key_json keys t) other []) o.0 q) in
      let c = texts_at_least F k s t bs cs (text_order F k b) x.0 y.0 (subst (λ (keys : Keys). key_order keys (s, null) (t, null) ≡ Less → ⊥) o.0 n) in
      subst (λ other. IsAtLeast F (a_value k ∷ []) (own ++ bs) (other ++ cs)) (sym y.1) (subst (λ own. IsAtLeast F (a_value k ∷ []) (own ++ bs) ((tag 4 (pos (length t)) ++ t) ++ cs)) (sym x.1) c)
  keys_at_least ns f (NumberKeys n) keys s t own other bs cs a o p q d =
      let b : AreKeys F k (numbers n.size) = subst (λ (keys : Keys). AreKeys F k keys) o.0 a in
      let x = number_bytes n.size n.is_signed n.is_non_zero s own o.1 (subst (λ (keys : Keys). SaysFirst F k (key_json keys s) own []) o.0 p) in
      let y = number_bytes n.size n.is_signed n.is_non_zero t other o.1 (subst (λ (keys : Keys). SaysFirst F k (key_json keys t) other []) o.0 q) in
      let same : int_cmp x.0 y.0 ≡ key_order (numbers n.size) (s, null) (t, null) = ap (λ z. int_cmp z y.0) (sym x.3) ∙ ap (λ z. int_cmp (signed_digits_value 10 s) z) (sym y.3) in
      let above = subst (λ (keys : Keys). key_order keys (s, null) (t, null) ≡ Less → ⊥) o.0 d in
      let c = numbers_at_least F k n.size n.is_signed x.0 y.0 bs cs (number_order F k n.size n.is_signed n.is_non_zero b o.1) x.1 y.1 (λ z. above (sym same ∙ z)) in
      subst (λ other. IsAtLeast F (a_value k ∷ []) (own ++ bs) (other ++ cs)) (sym y.2) (subst (λ own. IsAtLeast F (a_value k ∷ []) (own ++ bs) (tag n.size y.0 ++ cs)) (sym x.2) c)

  -- ---- keys that ascend are no such
  tag_one : (n : ℕ) (signed : Bool) (y z : ℤ) → 0 < n → InRange n signed y → InRange n signed z → tag n y ≡ tag n z → y ≡ z
  tag_one n signed y z some a b e =
      let g = as_naturals n signed y z a b (λ s. sym (sign_tested n y (tag n y) some (subst (λ s. InRange n s y) s a) refl) ∙ sign_tested n z (tag n y) some (subst (λ s. InRange n s z) s b) e) in
      let q : int_cmp y z ≡ Equal = sym g.6 ∙ sym (same_cmp n g.0 g.1 (tag n y) (tag n z) g.2 g.3 g.4 g.5 e) in
      subst (λ r. MatchOrdering r (y <ℤ z) (y ≡ z) (z <ℤ y)) q (int_ranks y z)

  not_less : (o p : Ordering) (T : Type 0) → (o ≡ Greater) ⊎ ((o ≡ Equal) × T) → o ≡ p → p ≡ Less → ⊥
  not_less o p T (inl a) q e = let k : Greater ≡ Less = sym a ∙ q ∙ e in cc
  not_less o p T (inr a) q e = let k : Equal ≡ Less = sym a.0 ∙ q ∙ e in cc

  pub keys_rise : (keys : Keys) (s t own other bs cs : List ℕ) → AreKeys F k keys → SaysFirst F k (key_json keys s) own [] → SaysFirst F k (key_json keys t) other [] → key_order keys (s, null) (t, null) ≡ Less → IsAtLeast F (a_value k ∷ []) (own ++ bs) (other ++ cs) → ⊥
  keys_rise texts s t own other bs cs a p q e h =
      let x = text_bytes s own a p in
      let y = text_bytes t other a q in
      texts_tell F k [] (own ++ bs) (other ++ cs) bs cs Less (text_order F k a) (inr (s, t, x.0, y.0, ap (λ o. o ++ bs) x.1, ap (λ o. o ++ cs) y.1, sym e)) h
  keys_rise (numbers n) s t own other bs cs a p q e h =
      let has : HasKind F k (whole n a.1 a.2) = inr (keys_full F k (numbers n) a, primitive n, a.0, sym a.3) in
      let x = number_bytes n a.1 a.2 s own has p in
      let y = number_bytes n a.1 a.2 t other has q in
      let f = front F h in
      let v = value_fronts F k (number_values n a.1) f.l f.r f.o f.us (number_order F k n a.1 a.2 a has) f.fronts in
      let some = some_bytes F k n a.1 (number_order F k n a.1 a.2 a has) in
      let left = same_front own f.l bs f.A f.left (ap (λ l. length l) x.2 ∙ long_tag n x.0 ∙ sym (ap (λ l. length l) v.4 ∙ long_tag n v.0)) in
      let right = same_front other f.r cs f.B f.right (ap (λ l. length l) y.2 ∙ long_tag n y.0 ∙ sym (ap (λ l. length l) v.5 ∙ long_tag n v.1)) in
      let one = tag_one n a.1 v.0 x.0 some v.2 x.1 (sym v.4 ∙ sym left.0 ∙ x.2) in
      let two = tag_one n a.1 v.1 y.0 some v.3 y.1 (sym v.5 ∙ sym right.0 ∙ y.2) in
      not_less f.o (key_order (numbers n) (s, null) (t, null)) _ f.behind (v.6 ∙ ap (λ z. int_cmp z v.1) one ∙ ap (λ z. int_cmp x.0 z) two ∙ ap (λ z. int_cmp z y.0) (sym x.3) ∙ ap (λ z. int_cmp (signed_digits_value 10 s) z) (sym y.3)) e

  -- keys have no parts
  pub key_parts : (keys : Keys) (j : Json) (own : List ℕ) (qs : List Part) → AreKeys F k keys → SaysFirst F k j own qs → qs ≡ []
  key_parts texts j own qs a f =
      let l : Lengths = record { width = 4; least = 0; greatest = 4294967295 } in
      let h : HasKind F k (utf8 l) = inr (full_list F a.1, sequence 4 0 4294967295 (codes "u8"), a.1, a_text (a.0, refl) a.2) in
      (subst (λ kind. Says F kind j own qs) (kind_one F f.1 h) f.2).4
  key_parts (numbers n) j own qs a f =
      let has : HasKind F k (whole n a.1 a.2) = inr (keys_full F k (numbers n) a, primitive n, a.0, sym a.3) in
      (subst (λ kind. Says F kind j own qs) (kind_one F f.1 has) f.2).3
