-- The laws of a value seen as another one, of values that are decoded from their encodings alone, and of refused values.
use Rattle.std.proofs.Common.{◌≡◌, ℕ, zero, suc, Bool, true, false, cond, List, [], ◌++◌, length, Option, Some, None, refl, sym, ◌∙◌, ap, arith, true≢false, length-append}
use Rattle.std.specs.Bool.{⊤}
use Rattle.borsh_codec.specs.Codec.{Codec, Lawful}
use Rattle.borsh_codec.specs.Shapes.{is_zero, contramap, by_encoding, unit, never, refused_if, filtered, allocated, decoded_with}
use Rattle.borsh_codec.proofs.Laws.Lists.{nil_of_length}

pub contramap-lawful : {A B : Type 0} (view : B → A) {c : Codec A} → Lawful A c → Lawful B (contramap view c)
contramap-lawful view l = record {
  equivalent_encoding = λ a b. l.equivalent_encoding (view a) (view b);
  prefix_free = λ m x z a b. l.prefix_free m x z (view a) (view b);
  empty = λ m x a. l.empty m x (view a);
  non_empty = λ m a. l.non_empty m (view a);
  round_trip = λ m a. l.round_trip m (view a);
  unambiguous = λ m x a b. l.unambiguous m x (view a) (view b);
  re_encodable = λ m x a. l.re_encodable m x (view a);
  canonical = λ x a. l.canonical x (view a);
  refused = λ a. l.refused (view a);
}

-- ---- values that are decoded from their encodings alone

pub zero_of : (n : ℕ) → is_zero n ≡ true → n ≡ 0
zero_of zero e = refl
zero_of (suc n) e = absurd (true≢false (sym e))

pub positive_of : (n : ℕ) → is_zero n ≡ false → n ≡ 0 → ⊥
positive_of zero e z = true≢false e
positive_of (suc n) e z = omega arith

-- encodings of one length, each of one value
pub by_encoding-lawful : {A : Type 0} (f : A → Option (List ℕ)) (n : ℕ)
    → ((a : A) (x : List ℕ) → f a ≡ Some x → length x ≡ n)
    → ((a b : A) (x : List ℕ) → f a ≡ Some x → f b ≡ Some x → a ≡ b)
    → Lawful A (by_encoding f (is_zero n))
by_encoding-lawful f n sized apart = record {
  equivalent_encoding = λ a b e. ap f e;
  prefix_free = λ m x z a b p q. nil_of_length z (omega (arith, sized a x p, sized b (x ++ z) q, length-append x z));
  empty = λ m x a e p. nil_of_length x (omega (arith, sized a x p, zero_of n e));
  non_empty = λ m a e p. positive_of n e (sym (sized a [] p));
  round_trip = λ m a x p. p;
  unambiguous = λ m x a b. apart a b x;
  re_encodable = λ m x a p. (x, p);
  canonical = λ x a e p. p;
  refused = λ a e. absurd (true≢false (sym e));
}

pub unit-lawful : Lawful ⊤ unit
unit-lawful = by_encoding-lawful (λ _. Some []) 0 (λ a x p. (let e : [] ≡ x = cc in ap length (sym e))) (λ a b x p q. refl)

pub never-lawful : Lawful ⊥ never
never-lawful = record {
  equivalent_encoding = λ a b e. absurd a;
  prefix_free = λ m x z a b p q. absurd a;
  empty = λ m x a e p. absurd a;
  non_empty = λ m a e p. absurd a;
  round_trip = λ m a x p. absurd a;
  unambiguous = λ m x a b p q. absurd a;
  re_encodable = λ m x a p. absurd a;
  canonical = λ x a e p. absurd a;
  refused = λ a e. absurd a;
}

-- ---- refused values

-- a value that is not refused and has an encoding
pub record Allowed (refused : Bool) (o : Option (List ℕ)) (x : List ℕ) : Type 0 where
  pub allowed : refused ≡ false
  pub is : o ≡ Some x

pub allowed_some : (refused : Bool) (o : Option (List ℕ)) (x : List ℕ) → cond refused None o ≡ Some x → Allowed refused o x
allowed_some true o x e = absurd (cc)
allowed_some false o x e = record { allowed = refl; is = e }

pub allowed_is : (refused : Bool) {o p : Option (List ℕ)} → refused ≡ false → o ≡ p → cond refused None o ≡ p
allowed_is refused e f = rw (e, f) refl

pub refused_is : (refused : Bool) (o : Option (List ℕ)) → refused ≡ true → cond refused None o ≡ None
refused_is refused o e = rw e refl

-- what has no encoding has none where it is refused
pub refused_none : (refused : Bool) {o : Option (List ℕ)} → o ≡ None → cond refused None o ≡ None
refused_none true e = refl
refused_none false e = e

pub refused_if-lawful : {A : Type 0} (refused : Bool) {c : Codec A} → Lawful A c → Lawful A (refused_if refused c)
refused_if-lawful refused {c = c} l = record {
  equivalent_encoding = λ a b s. ap (cond refused None) (l.equivalent_encoding a b s);
  prefix_free = λ m x z a b p q. l.prefix_free m x z a b p.decodes q.decodes;
  empty = λ m x a e p. l.empty m x a e p.decodes;
  non_empty = λ m a e p. l.non_empty m a e p.decodes;
  round_trip = λ m a x e. (let p = allowed_some refused (c.encoding a) x e in record { allowed = p.allowed; decodes = l.round_trip m a x p.is });
  unambiguous = λ m x a b p q. l.unambiguous m x a b p.decodes q.decodes;
  re_encodable = λ m x a p. (let f = l.re_encodable m x a p.decodes in (f.0, allowed_is refused p.allowed f.1));
  canonical = λ x a e p. allowed_is refused p.allowed (l.canonical x a e p.decodes);
  refused = λ a e. refused_is refused (c.encoding a) e;
}

-- ---- values that pass a test

-- a value that passes and has an encoding
pub record Passed (test : Bool) (o : Option (List ℕ)) (x : List ℕ) : Type 0 where
  pub passed : test ≡ true
  pub is : o ≡ Some x

pub passed_some : (test : Bool) (o : Option (List ℕ)) (x : List ℕ) → cond test o None ≡ Some x → Passed test o x
passed_some true o x e = record { passed = refl; is = e }
passed_some false o x e = absurd (cc)

pub passed_is : (test : Bool) {o p : Option (List ℕ)} → test ≡ true → o ≡ p → cond test o None ≡ p
passed_is test e f = rw (e, f) refl

pub passed_none : (test : Bool) {o : Option (List ℕ)} → o ≡ None → cond test o None ≡ None
passed_none true e = e
passed_none false e = refl

-- the same values pass
abbrev pub Respects : {A : Type 0} → (A → Bool) → Codec A → Type 0
Respects {A = A} test c = (a b : A) → c.equivalent a b → test a ≡ test b

pub filtered-lawful : {A : Type 0} (texts : Bool) (test : A → Bool) {c : Codec A} → Respects test c → Lawful A c → Lawful A (filtered texts test c)
filtered-lawful texts test {c = c} respects l = record {
  equivalent_encoding = λ a b s. ap (λ t. cond t (c.encoding a) None) (respects a b s) ∙ ap (λ o. cond (test b) o None) (l.equivalent_encoding a b s);
  prefix_free = λ m x z a b p q. l.prefix_free m x z a b p.decodes q.decodes;
  empty = λ m x a e p. l.empty m x a e p.decodes;
  non_empty = λ m a e p. l.non_empty m a e p.decodes;
  round_trip = λ m a x e. (let p = passed_some (test a) (c.encoding a) x e in record { passed = p.passed; decodes = l.round_trip m a x p.is });
  unambiguous = λ m x a b p q. l.unambiguous m x a b p.decodes q.decodes;
  re_encodable = λ m x a p. (let f = l.re_encodable m x a p.decodes in (f.0, passed_is (test a) p.passed f.1));
  canonical = λ x a e p. passed_is (test a) p.passed (l.canonical x a e p.decodes);
  refused = λ a e. passed_none (test a) (l.refused a e);
}

-- ---- values in memory of their own, and what isn't encoded

-- the laws say nothing of memory, nor of what isn't encoded
made-lawful : {A : Type 0} (P : A → Type 0) (memory : Bool) {c : Codec A} → Lawful A c → Lawful A (record c { made = P; decoding_allocates = memory })
made-lawful P memory l = record {
  equivalent_encoding = l.equivalent_encoding;
  prefix_free = l.prefix_free;
  empty = l.empty;
  non_empty = l.non_empty;
  round_trip = l.round_trip;
  unambiguous = l.unambiguous;
  re_encodable = l.re_encodable;
  canonical = l.canonical;
  refused = l.refused;
}

pub allocated-lawful : {A : Type 0} {c : Codec A} → Lawful A c → Lawful A (allocated c)
allocated-lawful {c = c} l = made-lawful c.made true l

pub decoded_with-lawful : {A : Type 0} (P : A → Type 0) {c : Codec A} → Lawful A c → Lawful A (decoded_with P c)
decoded_with-lawful P {c = c} l = made-lawful (λ a. P a × c.made a) c.decoding_allocates l
