-- Values that are read part by part: views, pairs, tags, refused values.
use Rattle.std.proofs.Common.{◌≡◌, ℕ, Bool, true, false, ◌||◌, List, [], ◌∷◌, ◌++◌, length, Option, Some, ◌⊎◌, refl, sym, ◌∙◌, ap, subst, inl, inr, append_assoc, true≢false}
use Rattle.std.specs.Bool.{⊤}
use Rattle.borsh_io.specs.declared.error.ErrorKind.{ErrorKind}
use Rattle.borsh_io.specs.Stream.{ReaderState}
use Rattle.borsh_codec.specs.Codec.{Codec, IsDecodable, Lawful}
use Rattle.borsh_codec.specs.Shapes.{contramap, by_encoding, unit, refused_if, filtered, allocated, pair, never, variant}
use Rattle.borsh_codec.proofs.Laws.Lists.{same_front, decodable_prefix_free, or_left, or_right}
use Rattle.borsh_codec.proofs.Laws.Exact.{Respects}
use Rattle.borsh_codec.proofs.Laws.Variants.{Avoids}
use Rattle.borsh_codec.specs.Reading.{TakesPrefix, NoPrefix, IsInvalidData, ReadFails, Decoded, NotDecoded, DecodedAfterTag, NotDecodedAfterTag}
use Rattle.borsh_codec.proofs.ReadSteps.{took_weaker, took_nothing, took_then, told_after, refused_map, Past, refused_after, refused_here, reads_at, denied_at}

-- ---- a value seen as another one

pub reads_contramap : {A B : Type 0} (view : B → A) {c : Codec A} {s t : ReaderState} {v : B} → Decoded A c s t (view v) → Decoded B (contramap view c) s t v
reads_contramap view r = record { took = r.took; made = r.made }

pub reads_of : {A B : Type 0} (view : B → A) {c : Codec A} {s t : ReaderState} {v : B} → Decoded B (contramap view c) s t v → Decoded A c s t (view v)
reads_of view r = record { took = r.took; made = r.made }

pub denied_contramap : {A B : Type 0} (view : B → A) {c : Codec A} {s t : ReaderState} {k : ErrorKind} → NotDecoded A c s t k → NotDecoded B (contramap view c) s t k
denied_contramap view r = record { refused = refused_map (λ e. e) (λ e. e) (λ o none front rest e p. none front rest e (view p.0, p.1)) r.refused }

-- where each value is the view of one, what refuses the one refuses the other
pub denied_of : {A B : Type 0} (view : B → A) (make : A → B) {c : Codec A} {s t : ReaderState} {k : ErrorKind} → ((a : A) → view (make a) ≡ a) → NotDecoded B (contramap view c) s t k → NotDecoded A c s t k
denied_of view make {c = c} {s = s} back r = record {
  refused = refused_map (λ e. e) (λ e. e) (λ o none front rest e p. none front rest e (make p.0, subst (λ a. c.decodes s.strict_order front a) (sym (back p.0)) p.1)) r.refused;
}

-- a value was read that is the view of none
pub denied_value : {A B : Type 0} (view : B → A) {c : Codec A} {s t : ReaderState} {v : A} {k : ErrorKind} → Lawful A c → Decoded A c s t v → IsInvalidData c.texts_allocate k → ((w : B) → c.equivalent (view w) v → ⊥) → NotDecoded B (contramap view c) s t k
denied_value view {c = c} {s = s} {t = t} {v = v} l p r none = record {
  refused = refused_here r p.took (λ front rest e w.
      let o = told_after s.bytes t.bytes (front ++ rest) p.took.front e p.took.takes.bytes in
      let f = same_front (IsDecodable c s.strict_order) (decodable_prefix_free l s.strict_order) front rest p.took.front o.0 (view w.0, w.1) (v, p.took.holds) o.2 in
      none w.0 (l.unambiguous s.strict_order front (view w.0) v w.1 (subst (λ x. c.decodes s.strict_order x v) (sym f.0) p.took.holds)));
}

-- ---- values that are decoded from their encodings alone

pub reads_exact : {A : Type 0} (f : A → Option (List ℕ)) (b : Bool) {s t : ReaderState} {v : A} {y : List ℕ} → f v ≡ Some y → TakesPrefix (λ x. x ≡ y) s t → Decoded A (by_encoding f b) s t v
reads_exact f b e p = record { took = took_weaker (λ x h. e ∙ ap Some (sym h)) p; made = tt }

-- encodings have a length, and there are fewer bytes
pub denied_exact : {A : Type 0} (f : A → Option (List ℕ)) (n : ℕ) (b : Bool) {s t : ReaderState} {k : ErrorKind} → ((a : A) (x : List ℕ) → f a ≡ Some x → length x ≡ n) → ReadFails false false (λ x. length x ≡ n) s t k → NotDecoded A (by_encoding f b) s t k
denied_exact f n b sized r = record { refused = refused_map (λ e. e) (λ e. e) (λ o none front rest e p. none front rest e (sized p.0 front p.1)) r }

pub reads_unit : (s : ReaderState) → Decoded ⊤ unit s s tt
reads_unit s = record { took = took_nothing s refl; made = tt }

-- ---- refused values

pub reads_allowed : {A : Type 0} (refused : Bool) {c : Codec A} {s t : ReaderState} {v : A} → refused ≡ false → Decoded A c s t v → Decoded A (refused_if refused c) s t v
reads_allowed refused e r = record { took = took_weaker (λ x p. record { allowed = e; decodes = p }) r.took; made = r.made }

pub denied_allowed : {A : Type 0} (refused : Bool) {c : Codec A} {s t : ReaderState} {k : ErrorKind} → NotDecoded A c s t k → NotDecoded A (refused_if refused c) s t k
denied_allowed refused r = record { refused = refused_map (λ e. e) (λ e. e) (λ o none front rest e p. none front rest e (p.0, p.1.decodes)) r.refused }

-- all values are refused, and nothing was read
pub denied_refused : {A : Type 0} (refused : Bool) (c : Codec A) (s : ReaderState) {k : ErrorKind} → refused ≡ true → IsInvalidData c.texts_allocate k → NotDecoded A (refused_if refused c) s s k
denied_refused refused c s e r = record { refused = refused_here {P = λ _. ⊤} r (took_nothing s tt) (λ front rest f p. true≢false (sym e ∙ p.1.allowed)) }

-- ---- values that pass a test

pub reads_passed : {A : Type 0} (texts : Bool) (test : A → Bool) {c : Codec A} {s t : ReaderState} {v : A} → test v ≡ true → Decoded A c s t v → Decoded A (filtered texts test c) s t v
reads_passed texts test e r = record { took = took_weaker (λ x p. record { passed = e; decodes = p }) r.took; made = r.made }

pub denied_passed : {A : Type 0} (texts : Bool) (test : A → Bool) {c : Codec A} {s t : ReaderState} {k : ErrorKind} → NotDecoded A c s t k → NotDecoded A (filtered texts test c) s t k
denied_passed texts test {c = c} r = record { refused = refused_map (λ e. e) (or_right texts c.texts_allocate) (λ o none front rest e p. none front rest e (p.0, p.1.decodes)) r.refused }

-- a value was read that doesn't pass
pub denied_failed : {A : Type 0} (texts : Bool) (test : A → Bool) {c : Codec A} {s t : ReaderState} {v : A} {k : ErrorKind} → Respects test c → Lawful A c → Decoded A c s t v → IsInvalidData (texts || c.texts_allocate) k → (test v ≡ true → ⊥) → NotDecoded A (filtered texts test c) s t k
denied_failed texts test {c = c} {s = s} {t = t} {v = v} respects l p r failed = record {
  refused = refused_here r p.took (λ front rest e w.
      let o = told_after s.bytes t.bytes (front ++ rest) p.took.front e p.took.takes.bytes in
      let f = same_front (IsDecodable c s.strict_order) (decodable_prefix_free l s.strict_order) front rest p.took.front o.0 (w.0, w.1.decodes) (v, p.took.holds) o.2 in
      let same = l.unambiguous s.strict_order front w.0 v w.1.decodes (subst (λ x. c.decodes s.strict_order x v) (sym f.0) p.took.holds) in
      failed (sym (respects w.0 v same) ∙ w.1.passed));
}

-- ---- values in memory of their own

pub reads_stored : {A : Type 0} {c : Codec A} {s t : ReaderState} {v : A} → Decoded A c s t v → Decoded A (allocated c) s t v
reads_stored r = record { took = r.took; made = r.made }

pub denied_stored : {A : Type 0} {c : Codec A} {s t : ReaderState} {k : ErrorKind} → NotDecoded A c s t k → NotDecoded A (allocated c) s t k
denied_stored r = record { refused = refused_map (λ e. refl) (λ e. e) (λ o none. none) r.refused }

-- ---- two parts in order

pub reads_pair : {A B : Type 0} {a : Codec A} {b : Codec B} {s t u : ReaderState} {v : A} {w : B} → Decoded A a s t v → Decoded B b t u w → Decoded (A × B) (pair a b) s u (v, w)
reads_pair {s = s} p q = record { took = took_then p.took (reads_at s p.took.takes.strict_order q); made = (p.made, q.made) }

pub denied_pair_first : {A B : Type 0} {a : Codec A} (b : Codec B) {s t : ReaderState} {k : ErrorKind} → NotDecoded A a s t k → NotDecoded (A × B) (pair a b) s t k
denied_pair_first {a = a} b r = record {
  refused = refused_map (or_left a.decoding_allocates b.decoding_allocates) (or_left a.texts_allocate b.texts_allocate)
      (λ o none front rest e p. none p.1.first (p.1.second ++ rest) (e ∙ ap Some (ap (λ z. z ++ rest) p.1.whole ∙ append_assoc p.1.first p.1.second rest)) (p.0.0, p.1.left))
      r.refused;
}

pair_past : {A B : Type 0} {a : Codec A} (b : Codec B) → Lawful A a → (m : Bool) (v : A) (f r front rest : List ℕ) → a.decodes m f v → IsDecodable (pair a b) m front → f ++ r ≡ front ++ rest
    → Past (IsDecodable b m) r rest
pair_past {a = a} b l m v f r front rest p w e =
    let i = w.1 in
    let e' : f ++ r ≡ i.first ++ (i.second ++ rest) = e ∙ ap (λ z. z ++ rest) i.whole ∙ append_assoc i.first i.second rest in
    let g = same_front (IsDecodable a m) (decodable_prefix_free l m) f r i.first (i.second ++ rest) (v, p) (w.0.0, i.left) e' in
    record { more = i.second; whole = g.1; holds = (w.0.1, i.right) }

pub denied_pair_second : {A B : Type 0} {a : Codec A} {b : Codec B} {s t u : ReaderState} {v : A} {k : ErrorKind} → Lawful A a → Decoded A a s t v → NotDecoded B b t u k → NotDecoded (A × B) (pair a b) s u k
denied_pair_second {a = a} {b = b} {s = s} {v = v} l p r = record {
  refused = refused_after (or_right a.decoding_allocates b.decoding_allocates) (or_right a.texts_allocate b.texts_allocate) p.took (pair_past b l s.strict_order v) (denied_at s p.took.takes.strict_order r);
}

-- ---- a tag and what is behind it

-- the tag was taken, and then what makes the value behind it
pub reads_tag : {A : Type 0} {c : Codec A} {j : ℕ} {s t u : ReaderState} {v : A} → TakesPrefix (λ x. x ≡ j ∷ []) s t → DecodedAfterTag j A c t u v → Decoded A c s u v
reads_tag {c = c} {j = j} {s = s} {t = t} {u = u} {v = v} p q =
    let q' = subst (λ m. TakesPrefix (λ x. c.decodes m (j ∷ x) v) t u) p.takes.strict_order q.took in
    record { took = took_weaker (λ x i. (let e : x ≡ j ∷ i.second = i.whole ∙ ap (λ z. z ++ i.second) i.left in subst (λ z. c.decodes s.strict_order z v) (sym e) i.right)) (took_then p q'); made = q.made }

tag_past : {A : Type 0} {c : Codec A} → Lawful A c → c.is_zero_width ≡ false → (m : Bool) (j : ℕ) (f r front rest : List ℕ) → f ≡ j ∷ [] → IsDecodable c m front → f ++ r ≡ front ++ rest
    → Past (λ x. IsDecodable c m (j ∷ x)) r rest
tag_past l full m j f r [] rest p w e = absurd (l.non_empty m w.0 full w.1)
tag_past {c = c} l full m j f r (b ∷ front) rest p w e =
    let e' : j ∷ r ≡ b ∷ (front ++ rest) = ap (λ z. z ++ r) (sym p) ∙ e in
    let heads : b ≡ j = cc in
    record { more = front; whole = cc; holds = subst (λ z. IsDecodable c m (z ∷ front)) heads w }

pub denied_tag : {A : Type 0} {c : Codec A} {j : ℕ} {s t u : ReaderState} {k : ErrorKind} → Lawful A c → c.is_zero_width ≡ false → TakesPrefix (λ x. x ≡ j ∷ []) s t → NotDecodedAfterTag j A c t u k → NotDecoded A c s u k
denied_tag {c = c} {j = j} {s = s} {t = t} {u = u} {k = k} l full p r =
    let r' = subst (λ m. ReadFails c.decoding_allocates c.texts_allocate (λ x. IsDecodable c m (j ∷ x)) t u k) p.takes.strict_order r.refused in
    record { refused = refused_after (λ e. e) (λ e. e) p (tag_past l full s.strict_order j) r' }

no_tag : {A : Type 0} {c : Codec A} → Lawful A c → c.is_zero_width ≡ false → (m : Bool) (o : Option (List ℕ)) → NoPrefix (λ x. length x ≡ 1) o → NoPrefix (IsDecodable c m) o
no_tag l full m o none [] rest e w = l.non_empty m w.0 full w.1
no_tag l full m o none (b ∷ front) rest e w = none (b ∷ []) (front ++ rest) e refl

-- there is no tag
pub denied_no_tag : {A : Type 0} {c : Codec A} {s t : ReaderState} {k : ErrorKind} → Lawful A c → c.is_zero_width ≡ false → ReadFails false false (λ x. length x ≡ 1) s t k → NotDecoded A c s t k
denied_no_tag {s = s} l full r = record { refused = refused_map (λ e. absurd (true≢false (sym e))) (λ e. absurd (true≢false (sym e))) (no_tag l full s.strict_order) r }

pub behind_contramap : {A B : Type 0} (view : B → A) {c : Codec A} {j : ℕ} {s t : ReaderState} {v : B} → DecodedAfterTag j A c s t (view v) → DecodedAfterTag j B (contramap view c) s t v
behind_contramap view r = record { took = r.took; made = r.made }

pub denied_behind_contramap : {A B : Type 0} (view : B → A) {c : Codec A} {j : ℕ} {s t : ReaderState} {k : ErrorKind} → NotDecodedAfterTag j A c s t k → NotDecodedAfterTag j B (contramap view c) s t k
denied_behind_contramap view r = record { refused = refused_map (λ e. e) (λ e. e) (λ o none front rest e p. none front rest e (view p.0, p.1)) r.refused }

-- the tag is that of the first variant
pub reads_here : {A B : Type 0} (j : ℕ) {a : Codec A} (b : Codec B) {s t : ReaderState} {v : A} → Decoded A a s t v → DecodedAfterTag j (A ⊎ B) (variant j a b) s t (inl v)
reads_here j b r = record { took = took_weaker (λ x p. record { part = x; whole = refl; holds = p }) r.took; made = r.made }

-- the tag is that of a later variant
pub reads_there : {A B : Type 0} (j k : ℕ) (a : Codec A) {b : Codec B} {s t : ReaderState} {v : B} → DecodedAfterTag j B b s t v → DecodedAfterTag j (A ⊎ B) (variant k a b) s t (inr v)
reads_there j k a r = record { took = r.took; made = r.made }

here : {A B : Type 0} (j : ℕ) (a : Codec A) (b : Codec B) → Avoids j b → (m : Bool) (x : List ℕ) (v : A ⊎ B) → (variant j a b).decodes m (j ∷ x) v → IsDecodable a m x
here j a b avoids m x (inl v) p = (v, (let e : p.part ≡ x = (let w = p.whole in cc) in subst (λ z. a.decodes m z v) e p.holds))
here j a b avoids m x (inr w) p = absurd (avoids m x w p)

pub denied_here : {A B : Type 0} (j : ℕ) {a : Codec A} (b : Codec B) {s t : ReaderState} {k : ErrorKind} → Avoids j b → NotDecoded A a s t k → NotDecodedAfterTag j (A ⊎ B) (variant j a b) s t k
denied_here j {a = a} b {s = s} avoids r = record {
  refused = refused_map (or_left a.decoding_allocates b.decoding_allocates) (λ e. refl) (λ o none front rest e p. none front rest e (here j a b avoids s.strict_order front p.0 p.1)) r.refused;
}

there : {A B : Type 0} (j k : ℕ) (a : Codec A) (b : Codec B) → (j ≡ k → ⊥) → (m : Bool) (x : List ℕ) (v : A ⊎ B) → (variant k a b).decodes m (j ∷ x) v → IsDecodable b m (j ∷ x)
there j k a b apart m x (inl v) p = absurd (apart (let e = p.whole in cc))
there j k a b apart m x (inr w) p = (w, p)

pub denied_there : {A B : Type 0} (j k : ℕ) (a : Codec A) {b : Codec B} {s t : ReaderState} {kind : ErrorKind} → (j ≡ k → ⊥) → NotDecodedAfterTag j B b s t kind → NotDecodedAfterTag j (A ⊎ B) (variant k a b) s t kind
denied_there j k a {b = b} {s = s} apart r = record {
  refused = refused_map (or_right a.decoding_allocates b.decoding_allocates) (λ e. refl) (λ o none front rest e p. none front rest e (there j k a b apart s.strict_order front p.0 p.1)) r.refused;
}

-- the tag is that of no variant
pub denied_nowhere : (j : ℕ) (s : ReaderState) {k : ErrorKind} → IsInvalidData true k → NotDecodedAfterTag j ⊥ never s s k
denied_nowhere j s r = record { refused = refused_here {P = λ _. ⊤} r (took_nothing s tt) (λ front rest e p. p.0) }
