-- Where JSON has the text of a number.
use Rattle.std.proofs.Common.{◌≡◌, inl, inr, ℕ, ◌<◌, List, Option, Some, None, sym, ap, arith, option_map, MatchOption, Bor}
use Rattle.json.specs.{Json.{Json}, Find.{as_str, as_number}}
use Rattle.borsh_json.specs.Table.{IsNumber}
use Rattle.borsh_json.proofs.OpeningLaws.{string_is, number_is}

no_string : (n : ℕ) (j : Json) (s : List ℕ) → 8 < n → as_str j ≡ None → IsNumber n s j → ⊥
no_string n j s h e (inl p) = (let k = p.0 in absurd (omega arith))
no_string n j s h e (inr p) = (let f = ap as_str p.1 in cc)

-- of more than 8 bytes
pub quoted : (n : ℕ) (j : Json) (o : Option (Bor (List ℕ))) → 8 < n → option_map (λ s. s.now) o ≡ as_str j → MatchOption o ((s : List ℕ) → IsNumber n s j → ⊥) (λ s. IsNumber n s.now j)
quoted n j None h e = λ s p. no_string n j s h (sym e) p
quoted n j (Some t) h e = inr (omega arith, string_is j t.now (sym e))

-- of at most 8
pub plain : (n : ℕ) (j : Json) (t : List ℕ) → (8 < n → ⊥) → as_number j ≡ Some t → IsNumber n t j
plain n j t h e = inl (omega (arith, h), number_is j t e)

-- of 8, where it isn't a number
pub long : (n : ℕ) (j : Json) (o : Option (Bor (List ℕ))) → n ≡ 8 → as_number j ≡ None → option_map (λ s. s.now) o ≡ as_str j → MatchOption o ((s : List ℕ) → IsNumber n s j → ⊥) (λ s. IsNumber n s.now j)
long n j None h k e = λ s p. elim p [ inl q ↦ (let f = ap as_number q.1 in cc) | inr q ↦ (let f = ap as_str q.1 in cc) ]
long n j (Some t) h k e = inr (omega arith, string_is j t.now (sym e))

-- of fewer
pub no_other : (n : ℕ) (j : Json) → (8 < n → ⊥) → (n ≡ 8 → ⊥) → as_number j ≡ None → (s : List ℕ) → IsNumber n s j → ⊥
no_other n j h k e s (inl q) = (let f = ap as_number q.1 in cc)
no_other n j h k e s (inr q) = (let z = q.0 in absurd (omega (arith, h, k)))
