-- Bytes of which two neighbours don't ascend, as primitives and as digits.
use Rattle.std.proofs.{Common.{◌≡◌, inl, inr, ℕ, suc, ◌≤◌, ◌%◌, ◌^◌, List, [], ◌∷◌, ◌++◌, length, append-nil, false, Option, refl, sym, ◌∙◌, ap, subst, arith, ℤ, ◌<ℤ◌, pos, negsuc, ◌<◌, All, Less, Equal, Greater}, lemmas.Bool.{cases_lt}, lemmas.Int.{ints}}
use Rattle.std.specs.{Cmp.{int_cmp_is, int_ranks}, Ordering.{int_cmp, MatchOrdering}}
use Rattle.borsh_walks.specs.Container.{tag}
use Rattle.borsh_values.proofs.MemberLaws.{same_front}
use Rattle.borsh_json.specs.{Descents.{PrimitivesDescend}, Forms.{Form, IsByte}, Ordered.{numbers, HasOrder, a_value, IsAtLeast}, Table.{primitive_kind, InRange}}
use Rattle.borsh_json.proofs.{DescentLaws.{all_right, numbers_at_least}, FoundLaws.{byte_full}, OrderLaws.{front, value_fronts}, OrderNumbers.{long_tag}}

-- a byte is ordered as a number without a sign
pub byte_order : (F : List ℕ → Option Form) (e : List ℕ) → IsByte F e → HasOrder F e (numbers 1 false)
byte_order F e b = inr (byte_full F b, inl (b.1, inr (false, ap (λ e. primitive_kind e 1) b.0)))

-- of two numbers of a byte that don't ascend, the bytes
fall_bytes : (before after bytes : List ℕ) (y z : ℤ) → InRange 1 false y → InRange 1 false z → (int_cmp y z ≡ Less → ⊥) → bytes ≡ before ++ (tag 1 y ++ (tag 1 z ++ after)) → (b : ℕ) × (c : ℕ) × (bytes ≡ before ++ b ∷ c ∷ after) × (c ≤ b)
fall_bytes before after bytes (pos m) (pos n) p q f e = (
  m % 256,
  n % 256,
  e,
  elim (cases_lt m n) [
    | inl l ↦ absurd (f (sym (int_cmp_is (pos m) (pos n) Less (omega (arith, ints, l)))))
    | inr g ↦ omega (arith, p, q, g)
  ],
)
fall_bytes before after bytes (pos m) (negsuc n) p q f e = absurd q
fall_bytes before after bytes (negsuc m) z p q f e = absurd p

-- a number doesn't compare less than one that isn't above it
not_above : (b c : ℕ) → c ≤ b → int_cmp (pos b) (pos c) ≡ Less → ⊥
not_above b c l e =
    let h : pos b <ℤ pos c = subst (λ r. MatchOrdering r (pos b <ℤ pos c) (pos b ≡ pos c) (pos c <ℤ pos b)) e (int_ranks (pos b) (pos c)) in
    omega (arith, ints, h, l)

module _ (F : List ℕ → Option Form) (e : List ℕ) (byte : IsByte F e) where
  -- of bytes two neighbours that don't ascend, as primitives
  pub bytes_descend : (before after bytes : List ℕ) (b c i : ℕ) → All (λ b. b < 256) bytes → bytes ≡ before ++ b ∷ c ∷ after → i ≡ suc (length before) → c ≤ b → PrimitivesDescend F e 1 bytes i
  bytes_descend before after bytes b c i small w q l =
      let P : ℕ → Type 0 = λ b. b < 256 in
      let all = all_right P before (b ∷ c ∷ after) (subst (λ l. All P l) w small) in
      let f : b < 256 = all 0 0 (omega arith) in
      let s : c < 256 = all 1 0 (omega arith) in
      let t : b % 256 ≡ b = omega (arith, f) in
      let u : c % 256 ≡ c = omega (arith, s) in
      let one : 256 ^ 1 ≡ 256 = refl in
      let h = numbers_at_least F e 1 false (pos b) (pos c) [] [] (byte_order F e byte) (omega (arith, f, one)) (omega (arith, s, one)) (not_above b c l) in
      record {
        before = before;
        first = b ∷ [];
        second = c ∷ [];
        after = after;
        some = omega (arith, q);
        passed = omega (arith, q);
        bytes_are = w;
        first_is = refl;
        second_is = refl;
        falls = subst (λ c. IsAtLeast F (a_value e ∷ []) (b ∷ []) (c ∷ [])) u (subst (λ b. IsAtLeast F (a_value e ∷ []) (b ∷ []) (c % 256 ∷ [])) t h);
      }

  -- primitives that don't ascend, as bytes
  pub bytes_fallen : (bytes : List ℕ) (i : ℕ) (d : PrimitivesDescend F e 1 bytes i) → (b : ℕ) × (c : ℕ) × (bytes ≡ d.before ++ b ∷ c ∷ d.after) × (c ≤ b)
  bytes_fallen bytes i d =
      let f = front F d.falls in
      let q = value_fronts F e (numbers 1 false) f.l f.r f.o f.us (byte_order F e byte) f.fronts in
      let u = same_front d.first (tag 1 q.0) [] f.A (append-nil d.first ∙ f.left ∙ ap (λ l. l ++ f.A) q.4) (d.first_is ∙ sym (long_tag 1 q.0)) in
      let v = same_front d.second (tag 1 q.1) [] f.B (append-nil d.second ∙ f.right ∙ ap (λ l. l ++ f.B) q.5) (d.second_is ∙ sym (long_tag 1 q.1)) in
      fall_bytes d.before d.after bytes q.0 q.1 q.2 q.3 (λ z. elim f.behind [ inl b ↦ (let k : Greater ≡ Less = sym b ∙ q.6 ∙ z in cc) | inr b ↦ (let k : Equal ≡ Less = sym b.0 ∙ q.6 ∙ z in cc) ])
      (d.bytes_are ∙ ap (λ l. d.before ++ (l ++ (d.second ++ d.after))) u.0 ∙ ap (λ l. d.before ++ (tag 1 q.0 ++ (l ++ d.after))) v.0)
