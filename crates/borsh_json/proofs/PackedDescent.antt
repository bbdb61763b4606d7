-- Sets of primitives that don't ascend.
use Rattle.std.proofs.Common.{◌≡◌, inl, inr, ℕ, suc, ◌-◌, ◌*◌, ◌<◌, ◌≤◌, List, [], ◌++◌, length, drop, Option, Some, sym, ◌∙◌, ap, subst, arith, pos, All}
use Rattle.borsh_walks.specs.Container.{tag}
use Rattle.borsh_values.specs.Nodes.{packed_size, OpensElements, Opens, AreElementsOf}
use Rattle.borsh_plan.specs.declared.named.Named.{Named}
use Rattle.borsh_json.specs.{declared.order.Ordered.{Ordered}, Descents.{PrimitivesDescend, HasKeys, HasDescent}, Forms.{Form, primitive, sequence, shape_of_form, shapes}, Found.{IsSet}, Orders.{FindsOrder, KeysAscend, ArePrimitives}}
use Rattle.borsh_json.proofs.{DescentLaws.{primitives_descend}, FormKinds.{shaped}, OrderLaws.{clash}}

module _ (F : List ℕ → Option Form) (ns : List Named) where
  -- a set of primitives, with their order, and its own bytes
  pub record IsPacked (x e k own es : List ℕ) (qs : List (List ℕ)) (n : ℕ) (found : Ordered) : Type 0 where
    pub count : ℕ
    pub keys : HasKeys F x e k
    pub set : IsSet F x e
    pub primitives : ArePrimitives F ns e found (suc n) es
    pub own_is : own ≡ tag 4 (pos count) ++ es
    pub many : length es ≡ count * suc n
    pub small : All (λ b. b < 256) es
    pub fits : count ≤ 4294967295
    pub no_parts : qs ≡ []

  module _ (x e k own es : List ℕ) (qs : List (List ℕ)) (n w lo hi : ℕ) (found : Ordered) (a : KeysAscend F ns x k found) (s : F x ≡ Some (sequence w lo hi e)) (p : F e ≡ Some (primitive (suc n)))
      (o : Opens (shapes F) (shape_of_form (sequence w lo hi e)) own qs) (l : AreElementsOf (shape_of_form (sequence w lo hi e)) own es) where
    is_packed : IsPacked x e k own es qs n found
    is_packed =
        let g : Some (sequence w lo hi e) ≡ Some (sequence 4 0 4294967295 a.0) = sym s ∙ a.1.0 in
        let q : a.0 ≡ e = cc in
        let v : w ≡ 4 = cc in
        let top : hi ≡ 4294967295 = cc in
        let size : packed_size (shapes F e) ≡ suc n = ap (λ o. packed_size o) (shaped (F e) p) in
        let f : OpensElements (suc n) e o.0 o.1 qs = subst (λ m. OpensElements m e o.0 o.1 qs) size o.5 in
        let keys = subst (λ e. HasKeys F x e k) q a.1 in
        let own_is : own ≡ tag 4 (pos o.0) ++ o.1 = o.4 ∙ ap (λ w. tag w (pos o.0) ++ o.1) v in
        let elements : es ≡ o.1 = l ∙ ap (λ w. drop w own) v ∙ ap (λ own. drop 4 own) own_is in
        elim keys.1 [
          | inl t ↦ (let h : FindsOrder F ns e found = subst (λ k. FindsOrder F ns k found) t.1 a.2 in
              let len = ap (λ l. length l) elements ∙ f.0 in
              let small = subst (λ l. All (λ b. b < 256) l) (sym elements) f.1 in
              record {
                count = o.0;
                keys = keys;
                set = (keys.0, t.0);
                primitives = (h, p, omega arith, (o.0, len), small);
                own_is = own_is ∙ ap (λ l. tag 4 (pos o.0) ++ l) (sym elements);
                many = len;
                small = small;
                fits = subst (λ hi. o.0 ≤ hi) top o.3;
                no_parts = f.2;
              })
          | inr m ↦ absurd (clash (F e) p m.1 (λ q. cc))
        ]

    -- of which two neighbours don't ascend
    pub packed_descent : (rest : List ℕ) (P : ℕ → Type 0) → (ArePrimitives F ns e found (suc n) es → (i : ℕ) × P i × PrimitivesDescend F e (suc n) es i) → (passed : ℕ) × P (suc passed) × HasDescent F x (own ++ rest) passed
    packed_descent rest P falls =
        let r = is_packed in
        let d = falls r.primitives in
        let next : d.0 ≡ suc (d.0 - 1) = (let s = d.2.some in omega (arith, s)) in
        (d.0 - 1, subst P next d.1, primitives_descend F e n p x k own es rest r.count d.0 r.keys r.own_is r.many r.small r.fits d.2)

    -- or all do
    pub packed_rises : (ArePrimitives F ns e found (suc n) es → (i : ℕ) → PrimitivesDescend F e (suc n) es i → ⊥) → IsSet F x e × ((i : ℕ) → PrimitivesDescend F e (suc n) (drop 4 own) i → ⊥) × (qs ≡ [])
    packed_rises falls =
        let r = is_packed in
        (r.set, (λ i d. falls r.primitives i (subst (λ b. PrimitivesDescend F e (suc n) b i) (ap (λ b. drop 4 b) r.own_is) d)), r.no_parts)
