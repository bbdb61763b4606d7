-- The laws of two parts in order.
use Rattle.std.proofs.Common.{◌≡◌, ℕ, Bool, List, ◌++◌, Some, sym, ◌∙◌, ap, subst, inl, inr, append_assoc}
use Rattle.borsh_codec.specs.Codec.{Codec, IsDecodable, Lawful}
use Rattle.borsh_codec.specs.Shapes.{append_encodings, pair}
use Rattle.borsh_codec.proofs.Laws.Lists.{same_front, decodable_prefix_free, nil_parts, and_true, and_false, joined_some, joined_is}

module _ {A B : Type 0} {a : Codec A} {b : Codec B} (la : Lawful A a) (lb : Lawful B b) where
  fronts : (m : Bool) (x y u v : List ℕ) (s t : A) → a.decodes m x s → a.decodes m u t → x ++ y ≡ u ++ v → (x ≡ u) × (y ≡ v)
  fronts m x y u v s t p q e = same_front (IsDecodable a m) (decodable_prefix_free la m) x y u v (s, p) (t, q) e

  round_trip : (m : Bool) (v : A × B) (x : List ℕ) → (pair a b).encoding v ≡ Some x → (pair a b).decodes m x v
  round_trip m v x e =
      let p = joined_some (a.encoding v.0) (b.encoding v.1) x e in
      record { first = p.first; second = p.second; whole = p.whole; left = la.round_trip m v.0 p.first p.left; right = lb.round_trip m v.1 p.second p.right }

  one : (m : Bool) (x : List ℕ) (v w : A × B) → (pair a b).decodes m x v → (pair a b).decodes m x w → a.equivalent v.0 w.0 × b.equivalent v.1 w.1
  one m x v w p q =
      let f = fronts m p.first p.second q.first q.second v.0 w.0 p.left q.left (sym p.whole ∙ q.whole) in
      (la.unambiguous m p.first v.0 w.0 p.left (subst (λ y. a.decodes m y w.0) (sym f.0) q.left), lb.unambiguous m p.second v.1 w.1 p.right (subst (λ y. b.decodes m y w.1) (sym f.1) q.right))

  pub pair-lawful : Lawful (A × B) (pair a b)
  pair-lawful = record {
    equivalent_encoding = λ v w s. ap (λ o. append_encodings o (b.encoding v.1)) (la.equivalent_encoding v.0 w.0 s.0) ∙ ap (append_encodings (a.encoding w.0)) (lb.equivalent_encoding v.1 w.1 s.1);
    prefix_free = λ m x z v w p q. (let e : p.first ++ (p.second ++ z) ≡ q.first ++ q.second = sym (append_assoc p.first p.second z) ∙ ap (λ y. y ++ z) (sym p.whole) ∙ q.whole in
        let f = fronts m p.first (p.second ++ z) q.first q.second v.0 w.0 p.left q.left e in
        lb.prefix_free m p.second z v.1 w.1 p.right (subst (λ y. b.decodes m y w.1) (sym f.1) q.right));
    empty = λ m x v e p. (let f = and_true a.is_zero_width b.is_zero_width e in
        let g = la.empty m p.first v.0 f.0 p.left in
        let h = lb.empty m p.second v.1 f.1 p.right in
        p.whole ∙ ap (λ y. y ++ p.second) g ∙ h);
    non_empty = λ m v e p. (let n = nil_parts p.first p.second p.whole in
        elim (and_false a.is_zero_width b.is_zero_width e) [
          | inl f ↦ la.non_empty m v.0 f (subst (λ y. a.decodes m y v.0) n.0 p.left)
          | inr f ↦ lb.non_empty m v.1 f (subst (λ y. b.decodes m y v.1) n.1 p.right)
        ]);
    round_trip = round_trip;
    unambiguous = one;
    re_encodable = λ m x v p. (let f = la.re_encodable m p.first v.0 p.left in
        let g = lb.re_encodable m p.second v.1 p.right in
        (f.0 ++ g.0, joined_is (a.encoding v.0) (b.encoding v.1) f.0 g.0 f.1 g.1));
    canonical = λ x v e p. (let f = and_true a.is_canonical b.is_canonical e in
        joined_is (a.encoding v.0) (b.encoding v.1) p.first p.second (la.canonical p.first v.0 f.0 p.left) (lb.canonical p.second v.1 f.1 p.right) ∙ ap Some (sym p.whole));
    refused = λ v e. ap (λ o. append_encodings o (b.encoding v.1)) (la.refused v.0 e);
  }
