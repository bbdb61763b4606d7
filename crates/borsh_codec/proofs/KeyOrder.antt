-- What a test of neighbours says of the order of the keys.
use Rattle.std.proofs.Common.{◌≡◌, ℕ, ◌+◌, ◌<◌, Bool, true, false, List, [], ◌∷◌, length, get_or, IsTrue, ◌↔◌, refl, sym, ◌∙◌, ap, arith, map}
use Rattle.std.specs.declared.cmp.Ordering.{Ordering}
use Rattle.std.specs.declared.cmp.Ordering.TheVariants.{Less, Equal, Greater}
use Rattle.std.specs.Ordering.{is_lt}
use Rattle.std.specs.Cmp.{IsTotalOrder}
use Rattle.std.specs.List.{IsAllAdjacentAnswer, AllAdjacentBelow}
use Rattle.std.specs.List.Sorted.{IsStrictlySortedBy}
use Rattle.std.proofs.lemmas.List.{get_or-map, length-map}
use Rattle.std.proofs.lemmas.Map.Keys.{sorted_from_all_adjacent, Less-from_sorted}

pub map-same : {X : Type 0} (xs : List X) → map (λ x. x) xs ≡ xs
map-same [] = refl
map-same (x ∷ xs) = ap (λ l. x ∷ l) (map-same xs)

less_is : (r : Ordering) → true ≡ is_lt r → r ≡ Less
less_is Less e = refl
less_is Equal e = absurd (cc)
less_is Greater e = absurd (cc)

module _ {X K : Type 0} {R : K → K → Ordering} (o : IsTotalOrder R) (key : X → K) where
  up : (e : X) (es : List X) → AllAdjacentBelow (λ x y. true ≡ is_lt (R (key x) (key y))) (e ∷ es) (length (e ∷ es)) → IsStrictlySortedBy R (map key (e ∷ es))
  up e es h = sorted_from_all_adjacent o (map key (e ∷ es)) (key e) step
    where
      step : (k : ℕ) → k + 1 < length (map key (e ∷ es)) → R (get_or (map key (e ∷ es)) k (key e)) (get_or (map key (e ∷ es)) (k + 1) (key e)) ≡ Less
      step k l =
          let long : k + 1 < length (e ∷ es) = omega (arith, length-map (e ∷ es) key) in
          let before : k < length (e ∷ es) = omega arith in
          let below = h k e long in
          let a : get_or (map key (e ∷ es)) k (key e) ≡ key (get_or (e ∷ es) k e) = get_or-map key (e ∷ es) k e (key e) before in
          let b : get_or (map key (e ∷ es)) (k + 1) (key e) ≡ key (get_or (e ∷ es) (k + 1) e) = get_or-map key (e ∷ es) (k + 1) e (key e) long in
          ap (λ x. R x (get_or (map key (e ∷ es)) (k + 1) (key e))) a ∙ ap (λ y. R (key (get_or (e ∷ es) k e)) y) b ∙ less_is (R (key (get_or (e ∷ es) k e)) (key (get_or (e ∷ es) (k + 1) e))) below

  down : (e : X) (es : List X) (k : ℕ) → k + 1 < length (e ∷ es) → false ≡ is_lt (R (key (get_or (e ∷ es) k e)) (key (get_or (e ∷ es) (k + 1) e))) → IsStrictlySortedBy R (map key (e ∷ es)) → ⊥
  down e es k long h s =
      let before : k < length (e ∷ es) = omega arith in
      let a : get_or (map key (e ∷ es)) k (key e) ≡ key (get_or (e ∷ es) k e) = get_or-map key (e ∷ es) k e (key e) before in
      let b : get_or (map key (e ∷ es)) (k + 1) (key e) ≡ key (get_or (e ∷ es) (k + 1) e) = get_or-map key (e ∷ es) (k + 1) e (key e) long in
      let l : R (get_or (map key (e ∷ es)) k (key e)) (get_or (map key (e ∷ es)) (k + 1) (key e)) ≡ Less = Less-from_sorted R (map key (e ∷ es)) k (k + 1) (key e) s (omega arith) (omega (arith, length-map (e ∷ es) key)) in
      let m : R (key (get_or (e ∷ es) k e)) (key (get_or (e ∷ es) (k + 1) e)) ≡ Less = ap (λ x. R x (key (get_or (e ∷ es) (k + 1) e))) (sym a) ∙ ap (λ y. R (get_or (map key (e ∷ es)) k (key e)) y) (sym b) ∙ l in
      let n : false ≡ true = h ∙ ap is_lt m in cc

  -- all neighbours ascend exactly if the keys strictly ascend
  pub ascends_answer : (es : List X) (r : Bool) → IsAllAdjacentAnswer (λ x y b. b ≡ is_lt (R (key x) (key y))) es r → (IsTrue r ↔ IsStrictlySortedBy R (map key es))
  unfolding IsStrictlySortedBy
  ascends_answer [] true h = (λ e. tt, λ s. refl)
  ascends_answer [] false h = absurd (let l = h.1 in let n : h.0 + 1 < 0 = l in omega arith)
  ascends_answer (e ∷ es) true h = (λ i. up e es h, λ s. refl)
  ascends_answer (e ∷ es) false h = (λ i. absurd (let f : false ≡ true = i in cc), λ s. absurd (down e es h.0 h.1 (h.2 e) s))
