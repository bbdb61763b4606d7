-- The laws of a value behind a tag, and of one of two values that differ in their tags.
use Rattle.std.proofs.Common.{◌≡◌, ℕ, Bool, true, false, ◌&&◌, List, [], ◌∷◌, ◌++◌, Option, Some, None, nat_eq, ◌⊎◌, refl, sym, ◌∙◌, ap, subst, inl, inr, append-nil, true≢false}
use Rattle.std.specs.Cmp.{unsigned_Decides}
use Rattle.borsh_codec.specs.Codec.{Codec, Lawful}
use Rattle.borsh_codec.specs.Shapes.{never, tagged, behind_tag, either, variant}
use Rattle.borsh_codec.specs.Variants.{NonEmpty}
use Rattle.borsh_codec.proofs.Laws.Exact.{never-lawful}
use Rattle.borsh_codec.proofs.Laws.Lists.{and_true}

-- nothing decodes that begins with the tag
abbrev pub Avoids : {A : Type 0} → ℕ → Codec A → Type 0
Avoids {A = A} tag c = (strict : Bool) (x : List ℕ) (a : A) → c.decodes strict (tag ∷ x) a → ⊥

pub nothing_avoids : (tag : ℕ) → Avoids tag never
nothing_avoids tag m x a p = a

pub variant_avoids : {A B : Type 0} {j k : ℕ} (a : Codec A) (b : Codec B) → (j ≡ k → ⊥) → Avoids j b → Avoids j (variant k a b)
variant_avoids a b apart avoids m x (inl v) p = let e = p.whole in apart (cc)
variant_avoids a b apart avoids m x (inr w) p = avoids m x w p

-- ---- behind a tag

pub record Behind (tag : ℕ) (o : Option (List ℕ)) (x : List ℕ) : Type 0 where
  pub part : List ℕ
  pub is : o ≡ Some part
  pub whole : x ≡ tag ∷ part

pub behind_some : (tag : ℕ) (o : Option (List ℕ)) (x : List ℕ) → tagged tag o ≡ Some x → Behind tag o x
behind_some tag None x e = absurd (cc)
behind_some tag (Some y) x e = record { part = y; is = refl; whole = cc }

module _ {A : Type 0} (k : ℕ) (a : Codec A) where
  pub tag_non_empty : NonEmpty (behind_tag k a)
  tag_non_empty m v p = let e = p.whole in absurd (cc)

  pub tag_avoids : (j : ℕ) → nat_eq j k ≡ false → Avoids j (behind_tag k a)
  tag_avoids j e m x v p =
      let same : j ≡ k = (let w = p.whole in cc) in
      true≢false (sym ((unsigned_Decides j k).1 same) ∙ e)

module _ {A : Type 0} (k : ℕ) {a : Codec A} (la : Lawful A a) where
  after_tag : (m : Bool) (v : A) (x : List ℕ) → tagged k (a.encoding v) ≡ Some x → (behind_tag k a).decodes m x v
  after_tag m v x e = let p = behind_some k (a.encoding v) x e in record { part = p.part; whole = p.whole; holds = la.round_trip m v p.part p.is }

  one_part : (m : Bool) (x : List ℕ) (v w : A) → (behind_tag k a).decodes m x v → (behind_tag k a).decodes m x w → a.equivalent v w
  one_part m x v w p q =
      let e : p.part ≡ q.part = (let f = p.whole in let g = q.whole in cc) in
      la.unambiguous m q.part v w (subst (λ y. a.decodes m y v) e p.holds) q.holds

  none_longer : (m : Bool) (x z : List ℕ) (v w : A) → (behind_tag k a).decodes m x v → (behind_tag k a).decodes m (x ++ z) w → z ≡ []
  none_longer m x z v w p q =
      let e : p.part ++ z ≡ q.part = (let f = ap (λ y. y ++ z) p.whole in let g = q.whole in cc) in
      la.prefix_free m p.part z v w p.holds (subst (λ y. a.decodes m y w) (sym e) q.holds)

  pub tag-lawful : Lawful A (behind_tag k a)
  tag-lawful = record {
    equivalent_encoding = λ v w s. ap (tagged k) (la.equivalent_encoding v w s);
    prefix_free = none_longer;
    empty = λ m x v e p. absurd (true≢false (sym e));
    non_empty = λ m v e p. tag_non_empty k a m v p;
    round_trip = after_tag;
    unambiguous = one_part;
    re_encodable = λ m x v p. (let f = la.re_encodable m p.part v p.holds in (k ∷ f.0, ap (tagged k) f.1));
    canonical = λ x v e p. ap (tagged k) (la.canonical p.part v e p.holds) ∙ ap Some (sym p.whole);
    refused = λ v e. absurd (true≢false (sym e));
  }

-- ---- one of two

module _ {A B : Type 0} {a : Codec A} {b : Codec B} (la : Lawful A a) (lb : Lawful B b) (fa : NonEmpty a) (fb : NonEmpty b) (avoid : (t : ℕ) → Avoids t a ⊎ Avoids t b) where
  mixed : (m : Bool) (x z : List ℕ) (v : A) (w : B) → a.decodes m x v → b.decodes m (x ++ z) w → ⊥
  mixed m [] z v w p q = fa m v p
  mixed m (t ∷ x) z v w p q = elim (avoid t) [ inl f ↦ f m x v p | inr g ↦ g m (x ++ z) w q ]

  mixed_back : (m : Bool) (x z : List ℕ) (v : A) (w : B) → b.decodes m x w → a.decodes m (x ++ z) v → ⊥
  mixed_back m [] z v w p q = fb m w p
  mixed_back m (t ∷ x) z v w p q = elim (avoid t) [ inl f ↦ f m (x ++ z) v q | inr g ↦ g m x w p ]

  equivalent_encoding : (v w : A ⊎ B) → (either a b).equivalent v w → (either a b).encoding v ≡ (either a b).encoding w
  equivalent_encoding (inl v) (inl w) s = la.equivalent_encoding v w s
  equivalent_encoding (inl v) (inr w) s = absurd s
  equivalent_encoding (inr v) (inl w) s = absurd s
  equivalent_encoding (inr v) (inr w) s = lb.equivalent_encoding v w s

  prefix_free : (m : Bool) (x z : List ℕ) (v w : A ⊎ B) → (either a b).decodes m x v → (either a b).decodes m (x ++ z) w → z ≡ []
  prefix_free m x z (inl v) (inl w) p q = la.prefix_free m x z v w p q
  prefix_free m x z (inl v) (inr w) p q = absurd (mixed m x z v w p q)
  prefix_free m x z (inr v) (inl w) p q = absurd (mixed_back m x z w v p q)
  prefix_free m x z (inr v) (inr w) p q = lb.prefix_free m x z v w p q

  non_empty : (m : Bool) (v : A ⊎ B) → (either a b).decodes m [] v → ⊥
  non_empty m (inl v) p = fa m v p
  non_empty m (inr v) p = fb m v p

  round_trip : (m : Bool) (v : A ⊎ B) (x : List ℕ) → (either a b).encoding v ≡ Some x → (either a b).decodes m x v
  round_trip m (inl v) x e = la.round_trip m v x e
  round_trip m (inr v) x e = lb.round_trip m v x e

  unambiguous : (m : Bool) (x : List ℕ) (v w : A ⊎ B) → (either a b).decodes m x v → (either a b).decodes m x w → (either a b).equivalent v w
  unambiguous m x (inl v) (inl w) p q = la.unambiguous m x v w p q
  unambiguous m x (inl v) (inr w) p q = mixed m x [] v w p (subst (λ y. b.decodes m y w) (sym (append-nil x)) q)
  unambiguous m x (inr v) (inl w) p q = mixed m x [] w v q (subst (λ y. b.decodes m y v) (sym (append-nil x)) p)
  unambiguous m x (inr v) (inr w) p q = lb.unambiguous m x v w p q

  re_encodable : (m : Bool) (x : List ℕ) (v : A ⊎ B) → (either a b).decodes m x v → (y : List ℕ) × ((either a b).encoding v ≡ Some y)
  re_encodable m x (inl v) p = la.re_encodable m x v p
  re_encodable m x (inr v) p = lb.re_encodable m x v p

  canonical : (x : List ℕ) (v : A ⊎ B) → a.is_canonical && b.is_canonical ≡ true → (either a b).decodes true x v → (either a b).encoding v ≡ Some x
  canonical x (inl v) e p = la.canonical x v (and_true a.is_canonical b.is_canonical e).0 p
  canonical x (inr v) e p = lb.canonical x v (and_true a.is_canonical b.is_canonical e).1 p

  pub either-lawful : Lawful (A ⊎ B) (either a b)
  either-lawful = record {
    equivalent_encoding = equivalent_encoding;
    prefix_free = prefix_free;
    empty = λ m x v e p. absurd (true≢false (sym e));
    non_empty = λ m v e p. non_empty m v p;
    round_trip = round_trip;
    unambiguous = unambiguous;
    re_encodable = re_encodable;
    canonical = canonical;
    refused = λ v e. absurd (true≢false (sym e));
  }

-- ---- a value behind a tag, or another one

-- behind each tag one of the two decodes nothing
one_of_two : {A B : Type 0} (k : ℕ) (a : Codec A) (b : Codec B) → Avoids k b → (t : ℕ) → Avoids t (behind_tag k a) ⊎ Avoids t b
one_of_two k a b avoids t =
    elim (nat_eq t k) as (λ q. nat_eq t k ≡ q → Avoids t (behind_tag k a) ⊎ Avoids t b) [
      | true ↦ λ e. inr (subst (λ j. Avoids j b) (sym ((unsigned_Decides t k).0 e)) avoids)
      | false ↦ λ e. inl (tag_avoids k a t e)
    ] refl

pub variant-lawful : {A B : Type 0} (k : ℕ) {a : Codec A} {b : Codec B} → Lawful A a → Lawful B b → Avoids k b → b.is_zero_width ≡ false → Lawful (A ⊎ B) (variant k a b)
variant-lawful k {a = a} {b = b} la lb avoids full = either-lawful (tag-lawful k la) lb (tag_non_empty k a) (λ m v p. lb.non_empty m v full p) (one_of_two k a b avoids)

-- the last variant of an enum
pub variant_last : {A : Type 0} (k : ℕ) {a : Codec A} → Lawful A a → Lawful (A ⊎ ⊥) (variant k a never)
variant_last k la = variant-lawful k la never-lawful (nothing_avoids k) refl
