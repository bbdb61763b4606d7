-- The laws of enums.
use Rattle.std.proofs.Common.{◌≡◌, ℕ, Bool, true, false, not, ◌&&◌, ◌||◌, List, [], ◌∷◌, length, ◌⊎◌, refl, sym, ◌∙◌, ap, subst, inl, inr, Some, true≢false}
use Rattle.std.specs.Cmp.{unsigned_Decides}
use Rattle.borsh_codec.specs.Codec.{Codec, Lawful}
use Rattle.borsh_codec.specs.Shapes.{contramap, behind_tag, either}
use Rattle.borsh_codec.specs.Reading.{any_byte}
use Rattle.borsh_codec.proofs.Laws.Conditional.{Conditional, from, from_two}
use Rattle.borsh_codec.proofs.Laws.Exact.{contramap-lawful, by_encoding-lawful}
use Rattle.borsh_codec.proofs.Laws.Lists.{and_true}
use Rattle.borsh_codec.proofs.Laws.Variants.{Avoids, tag_non_empty, tag_avoids, tag-lawful, either-lawful}
use Rattle.borsh_codec.specs.Variants.{NonEmpty, Tags, tag_of, both, has, apart, distinct}

-- ---- tags that are written

some_tail : (x y : List ℕ) → Some x ≡ Some y → x ≡ y
some_tail x y e = cc

pub any_byte-lawful : Lawful ℕ any_byte
any_byte-lawful = by_encoding-lawful (λ n. Some (n ∷ [])) 1
    (λ n x p. ap length (sym (some_tail (n ∷ []) x p)))
    (λ n m x p q. (let e : n ∷ [] ≡ m ∷ [] = some_tail (n ∷ []) x p ∙ sym (some_tail (m ∷ []) x q) in cc))

-- ---- tags

or_false : (a b : Bool) → a || b ≡ false → (a ≡ false) × (b ≡ false)
or_false true b e = absurd (true≢false e)
or_false false b e = (refl, e)

not_true : (b : Bool) → not b ≡ true → b ≡ false
not_true true e = absurd (true≢false (sym e))
not_true false e = refl

pub apart_has : (t : ℕ) (a b : Tags) → apart a b ≡ true → has t a ≡ true → has t b ≡ false
apart_has t (tag_of n) b e h =
    let same : t ≡ n = (unsigned_Decides t n).0 h in
    subst (λ k. has k b ≡ false) (sym same) (not_true (has n b) e)
apart_has t (both a c) b e h =
    let f = and_true (apart a b) (apart c b) e in
    let first : (r : Bool) → has t a ≡ r → has t b ≡ false = λ r. elim r as (λ r. has t a ≡ r → has t b ≡ false) [ true ↦ λ q. apart_has t a b f.0 q | false ↦ λ q. apart_has t c b f.1 (subst (λ s. s || has t c ≡ true) q h) ] in
    first (has t a) refl

-- the tags of both sides are apart, and each side's are distinct
pub record ForkDistinct (a b : Tags) : Type 0 where
  pub between : apart a b ≡ true
  pub left : distinct a ≡ true
  pub right : distinct b ≡ true

pub fork_distinct : (a b : Tags) → distinct (both a b) ≡ true → ForkDistinct a b
fork_distinct a b e =
    let f = and_true (apart a b) (distinct a && distinct b) e in
    let g = and_true (distinct a) (distinct b) f.1 in
    record { between = f.0; left = g.0; right = g.1 }

-- ---- variants with their tags and laws

-- what is known of the codec of some variants, which have these tags
pub record Variants {A : Type 0} (tags : Tags) (c : Codec A) : Type 1 where
  pub non_empty : NonEmpty c
  -- a tag is read before anything is refused, and the text of that error names the tag
  pub reads : c.refuses ≡ false
  pub texts : c.texts_allocate ≡ true
  -- no value is decoded behind a tag that no variant has
  pub avoids : (t : ℕ) → has t tags ≡ false → Avoids t c
  pub lawful_if : Conditional (distinct tags ≡ true → Lawful A c)

-- a variant: its fields, seen through a view, behind a tag
abbrev pub case_variants : {A B : Type 0} (view : B → A) (tag : ℕ) {c : Codec A} → Conditional (Lawful A c) → Variants (tag_of tag) (contramap view (behind_tag tag c))
case_variants view tag {c = c} laws = record {
  non_empty = λ m v p. tag_non_empty tag c m (view v) p;
  reads = refl;
  texts = refl;
  avoids = λ t e m x v p. tag_avoids tag c t e m x (view v) p;
  lawful_if = from (λ l _. contramap-lawful view (tag-lawful tag l)) laws;
}

module _ {A B : Type 0} {s t : Tags} {a : Codec A} {b : Codec B} (l : Variants s a) (r : Variants t b) where
  pub either_non_empty : NonEmpty (either a b)
  either_non_empty m (inl v) p = l.non_empty m v p
  either_non_empty m (inr v) p = r.non_empty m v p

  pub either_avoids : (n : ℕ) → has n s || has n t ≡ false → Avoids n (either a b)
  either_avoids n e m x (inl v) p = l.avoids n (or_false (has n s) (has n t) e).0 m x v p
  either_avoids n e m x (inr v) p = r.avoids n (or_false (has n s) (has n t) e).1 m x v p

  -- where the tags are apart, one of the two decodes nothing behind a tag
  pub one_avoids : apart s t ≡ true → (n : ℕ) → Avoids n a ⊎ Avoids n b
  one_avoids e n =
      let go : (q : Bool) → has n s ≡ q → Avoids n a ⊎ Avoids n b = λ q. elim q as (λ q. has n s ≡ q → Avoids n a ⊎ Avoids n b) [ true ↦ λ h. inr (r.avoids n (apart_has n s t e h)) | false ↦ λ h. inl (l.avoids n h) ] in
      go (has n s) refl

  pub either_lawful_if : (distinct s ≡ true → Lawful A a) → (distinct t ≡ true → Lawful B b) → distinct (both s t) ≡ true → Lawful (A ⊎ B) (either a b)
  either_lawful_if f g d =
      let e = fork_distinct s t d in
      either-lawful (f e.left) (g e.right) l.non_empty r.non_empty (one_avoids e.between)

abbrev pub either_variants : {A B : Type 0} {s t : Tags} {a : Codec A} {b : Codec B} → Variants s a → Variants t b → Variants (both s t) (either a b)
either_variants l r = record {
  non_empty = either_non_empty l r;
  reads = refl;
  texts = refl;
  avoids = either_avoids l r;
  lawful_if = from_two (either_lawful_if l r) l.lawful_if r.lawful_if;
}

-- the same variants, seen through a view
abbrev pub contramap_variants : {A B : Type 0} {s : Tags} {c : Codec A} (view : B → A) → Variants s c → Variants s (contramap view c)
contramap_variants view l = record {
  non_empty = λ m v p. l.non_empty m (view v) p;
  reads = l.reads;
  texts = l.texts;
  avoids = λ t e m x v p. l.avoids t e m x (view v) p;
  lawful_if = from (λ f d. contramap-lawful view (f d)) l.lawful_if;
}

-- the laws of a whole enum, whose tags are distinct
abbrev pub enum_lawful_if : {A B : Type 0} {s : Tags} {c : Codec A} (view : B → A) (v : Variants s c) → distinct s ≡ true → Conditional (Lawful B (contramap view c))
enum_lawful_if view v d = from (λ f. contramap-lawful view (f d)) v.lawful_if
