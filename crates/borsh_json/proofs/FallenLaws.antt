-- Whether one primitive isn't below another.
use Rattle.std.proofs.{Common.{◌≡◌, inl, inr, ℕ, suc, ◌<◌, List, [], ◌∷◌, length, Bool, true, false, Option, Some, refl, sym, ◌∙◌, subst, arith, append-nil, ℤ, Decides, int_cmp, is_lt, bytes_eq, Ordering, Less, Equal, Greater}, lemmas.Slice.Eq.{bytes_eq-Decides}}
use Rattle.borsh_walks.specs.Container.{tag}
use Rattle.borsh_plan.specs.declared.named.Named.{Named}
use Rattle.borsh_values.proofs.MemberLaws.{same_front}
use Rattle.borsh_json.specs.{declared.order.Ordered.{Ordered}, declared.order.Ordered.TheVariants.{Single, Number, Text, Array, List as Counted, Tuple, Other}, Forms.{Form, primitive}, Ordered.{Order, numbers, other, HasOrder, a_value, IsAtLeast, all_equal}, Orders.{FindsOrder, IsOrderOf, DecidesFall}, Table.{InRange}}
use Rattle.borsh_json.proofs.{DescentLaws.{packed_order}, FoundLaws.{full_primitive}, OrderLaws.{Tells, numbers_tell, other_copy, node_tells, differ_tells}}

-- a number that was found
number_of_order : (F : List ℕ → Option Form) (e : List ℕ) (k n : ℕ) (signed : Bool) → HasOrder F e (numbers k signed) → F e ≡ Some (primitive n) → k ≡ n
number_of_order F e k n signed (inl z) p = let q = z.1 in cc
number_of_order F e k n signed (inr (z, inl b)) p = let g : Some (primitive k) ≡ Some (primitive n) = sym b.0 ∙ p in cc
number_of_order F e k n signed (inr (z, inr b)) p = let q = b.0 in cc

-- an order tells
told : (F : List ℕ → Option Form) (e first second : List ℕ) (o : Ordering) (b : Bool) → b ≡ is_lt o → Tells F (a_value e) [] first second [] [] o [] → Decides b (IsAtLeast F (a_value e ∷ []) first second → ⊥) × (b ≡ false → IsAtLeast F (a_value e ∷ []) first second)
told F e first second Less b q h = (((λ t. h), (λ t. q)), (λ f. let g : true ≡ false = sym q ∙ f in cc))
told F e first second Equal b q h = (((λ t. let g : false ≡ true = sym q ∙ t in cc), (λ t. absurd (t (h.0 all_equal)))), (λ f. h.0 all_equal))
told F e first second Greater b q h = (((λ t. let g : false ≡ true = sym q ∙ t in cc), (λ t. absurd (t h))), (λ f. h))

pub numbers_fall : (k : ℕ) (signed : Bool) (order : Ordered) (first second : List ℕ) (o : Ordering) (less falls : Bool) → order ≡ Number k signed → ((n : ℕ) (y z : ℤ) → 0 < n → InRange n signed y → InRange n signed z → first ≡ tag n y → second ≡ tag n z → o ≡ int_cmp y z) → less ≡ is_lt o → (less ≡ true → falls ≡ false) → (less ≡ false → falls ≡ true) → DecidesFall order (length first) first second falls
numbers_fall k signed order first second o less falls q f l t u F ns e found p some one_is two_is small tiny =
    let g = subst (λ (order : Ordered). FindsOrder F ns e order) q found in
    let h : HasOrder F e (numbers k signed) = subst (λ (o : Order). HasOrder F e o) g.2 g.1 in
    let n = length first in
    let same = number_of_order F e k n signed h p in
    let m : HasOrder F e (numbers n signed) = subst (λ k. HasOrder F e (numbers k signed)) same h in
    let tells = numbers_tell F e n signed [] first second [] [] o m (inr (first, second, refl, two_is, small, tiny, sym (append-nil first), sym (append-nil second), (λ y z. f n y z))) in
    let d = told F e first second o less l tells in
    decided less refl d
  where
    decided : (b : Bool) → less ≡ b → Decides less (IsAtLeast F (a_value e ∷ []) first second → ⊥) × (less ≡ false → IsAtLeast F (a_value e ∷ []) first second) → Decides falls (IsAtLeast F (a_value e ∷ []) first second)
    decided true b d = ((λ x. let y : false ≡ true = sym (t b) ∙ x in cc), (λ x. absurd (d.0.0 b x)))
    decided false b d = ((λ x. d.1 b), (λ x. u b))

-- an order that isn't that of numbers
no_number : (F : List ℕ → Option Form) (ns : List Named) (e : List ℕ) (n : ℕ) (signed : Bool) (found : Ordered) → ((k : ℕ) (s : Bool) → found ≡ Number k s → ⊥) → IsOrderOf F ns e found (numbers n signed) → ⊥
no_number F ns e n signed Single f i = cc
no_number F ns e n signed (Number k s) f i = f k s refl
no_number F ns e n signed Text f i = cc
no_number F ns e n signed (Array k at) f i = let q = i.2 in cc
no_number F ns e n signed (Counted w at) f i = let q = i.2 in cc
no_number F ns e n signed (Tuple at k) f i = let q = i.4 in cc
no_number F ns e n signed (Other at) f i = let q = i.1 in cc

pub others_fall : (order : Ordered) (first second : List ℕ) (falls : Bool) → ((k : ℕ) (s : Bool) → order ≡ Number k s → ⊥) → falls ≡ bytes_eq first second → DecidesFall order (length first) first second falls
others_fall order [] second falls none q F ns e found p some one_is two_is small tiny = absurd (omega (arith, some))
others_fall order (b ∷ bs) second falls none q F ns e found p some one_is two_is small tiny =
    let first = b ∷ bs in
    let o = packed_order F e (length bs) p found.0 found.1 in
    let h : HasOrder F e other = elim o [
      | inl s ↦ absurd (no_number F ns e (suc (length bs)) s.0 order none (subst (λ (o : Order). IsOrderOf F ns e order o) s.1 found.2))
      | inr s ↦ subst (λ (o : Order). HasOrder F e o) s found.1
    ] in
    let full = full_primitive F p in
    let c = other_copy F e h in
    let d = bytes_eq-Decides first second in (
      (λ t. (let same : first ≡ second = d.0 (sym q ∙ t) in
          (node_tells F e (a_value e) [] first second c full (primitive (length first)) p first [] [] refl (sym (append-nil first)) (sym same ∙ sym (append-nil first)) [] (refl, refl)).0 all_equal)),
      (λ a. q ∙ d.1 (either (bytes_eq first second) refl a)),
    )
  where
    first : List ℕ
    first = b ∷ bs

    either : (r : Bool) → bytes_eq first second ≡ r → IsAtLeast F (a_value e ∷ []) first second → first ≡ second
    either true r a = (bytes_eq-Decides first second).0 r
    either false r a =
        let o = packed_order F e (length bs) p found.0 found.1 in
        let h : HasOrder F e other = elim o [
          | inl s ↦ absurd (no_number F ns e (suc (length bs)) s.0 order none (subst (λ (o : Order). IsOrderOf F ns e order o) s.1 found.2))
          | inr s ↦ subst (λ (o : Order). HasOrder F e o) s found.1
        ] in
        absurd (differ_tells F e (a_value e) [] first second (other_copy F e h) (full_primitive F p) (primitive (length first)) p (λ xs cs ds l m k.
        (let u = same_front first xs [] cs (append-nil first ∙ l) (sym k) in
        let v = same_front second xs [] ds (append-nil second ∙ m) (two_is ∙ sym k) in
        let t = (bytes_eq-Decides first second).1 (u.0 ∙ sym v.0) in
        let z : true ≡ false = sym t ∙ r in
        cc)) a)
