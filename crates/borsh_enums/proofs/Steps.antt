-- Outcomes of reads behind a tag, for the variants of an enum as a tree.
use Rattle.std.proofs.Common.{◌≡◌, ◌∙◌, ℕ, Bool, true, false, List, [], ◌∷◌, ◌++◌, Option, Result, Ok, Err, refl, sym, ap, subst, true≢false}
use Rattle.std.specs.Result.{IsErrAnd}
use Rattle.std.proofs.lemmas.Result.{IfOk-weaker, IfErr-weaker}
use Rattle.borsh_io.specs.declared.error.Error.{Error}
use Rattle.borsh_io.specs.declared.error.ErrorKind.{ErrorKind}
use Rattle.borsh_io.specs.Errors.{error_kind}
use Rattle.borsh_io.specs.Stream.{ReaderState}
use Rattle.borsh_codec.specs.Codec.{Codec, IsDecodable}
use Rattle.borsh_codec.specs.Shapes.{contramap}
use Rattle.borsh_codec.specs.Reading.{TakesPrefix, NoPrefix, IsInvalidData, ReadFails, Decodes, DecodesAfterTag, NotDecoded, NotDecodedAfterTag, any_byte}
use Rattle.borsh_codec.proofs.Laws.Lists.{or_left, or_right}
use Rattle.borsh_codec.proofs.Laws.Variants.{Avoids}
use Rattle.borsh_codec.proofs.ReadSteps.{Past, refused_map, refused_here, refused_after, took_nothing}
use Rattle.borsh_codec.proofs.ReadParts.{reads_tag}
use Rattle.borsh_codec.proofs.DecodeOutcomes.{decodes_exit, decodes_err, byte_took}
use Rattle.borsh_codec.proofs.DecodeVariants.{variant_exit, variant_err}
use Rattle.borsh_enums.specs.declared.cases.Fork.{Fork}
use Rattle.borsh_enums.specs.declared.cases.Fork.TheVariants.{Left, Right}
use Rattle.borsh_codec.specs.Variants.{NonEmpty, Tags, has, distinct, both}
use Rattle.borsh_codec.proofs.CaseLaws.{Variants, apart_has, fork_distinct}
use Rattle.borsh_enums.specs.Cases.{fork}

-- ---- one of two trees

left_of : {A B : Type 0} (a : Codec A) (b : Codec B) (t : ℕ) → Avoids t b → (m : Bool) (x : List ℕ) → IsDecodable (fork a b) m (t ∷ x) → IsDecodable a m (t ∷ x)
left_of a b t f m x (Left v, p) = (v, p)
left_of a b t f m x (Right v, p) = absurd (f m x v p)

right_of : {A B : Type 0} (a : Codec A) (b : Codec B) (t : ℕ) → Avoids t a → (m : Bool) (x : List ℕ) → IsDecodable (fork a b) m (t ∷ x) → IsDecodable b m (t ∷ x)
right_of a b t f m x (Left v, p) = absurd (f m x v p)
right_of a b t f m x (Right v, p) = (v, p)

module _ {A B R : Type 0} {i j : Tags} {a : Codec A} {b : Codec B} (l : Variants i a) (r : Variants j b) {state : R → ReaderState} {s u : R} {t : ℕ} (d : distinct (both i j) ≡ true) where
  pub left_exit : has t i ≡ true → (e : Error) {z : Result (Fork A B) Error} → IsErrAnd z (λ y. y ≡ e) → (distinct i ≡ true → DecodesAfterTag t a state s u (Err e)) → DecodesAfterTag t (fork a b) state s u z
  left_exit h e is f =
      let k = fork_distinct i j d in
      variant_exit e is (record {
        refused = refused_map (or_left a.decoding_allocates b.decoding_allocates) (λ x. refl)
            (λ o none front rest x p. none front rest x (left_of a b t (r.avoids t (apart_has t i j k.between h)) (state s).strict_order front p)) (f k.left).err.refused;
      })

  pub right_exit : has t i ≡ false → (e : Error) {z : Result (Fork A B) Error} → IsErrAnd z (λ y. y ≡ e) → (distinct j ≡ true → DecodesAfterTag t b state s u (Err e)) → DecodesAfterTag t (fork a b) state s u z
  right_exit h e is f =
      let k = fork_distinct i j d in
      variant_exit e is (record {
        refused = refused_map (or_right a.decoding_allocates b.decoding_allocates) (λ x. refl)
            (λ o none front rest x p. none front rest x (right_of a b t (l.avoids t h) (state s).strict_order front p)) (f k.right).err.refused;
      })

-- ---- an enum

module _ {A B R : Type 0} (view : B → A) {c : Codec A} {state : R → ReaderState} where
  -- no variant has the tag
  pub no_variant : {s : Tags} (v : Variants s c) {t : ℕ} (a : R) {e : Error} → has t s ≡ false → IsInvalidData c.texts_allocate (error_kind e) → DecodesAfterTag t (contramap view c) state a a (Err e)
  no_variant v {t = t} a h i = variant_err (record { refused = refused_here {P = λ _. Unit {0}} i (took_nothing (state a) tt) (λ front rest x p. v.avoids t h (state a).strict_order front (view p.0) p.1) })

-- ---- a tag and what is behind it, where nothing decodes from no bytes

tag_past : {A : Type 0} (c : Codec A) → NonEmpty c → (m : Bool) (j : ℕ) (f r front rest : List ℕ) → f ≡ j ∷ [] → IsDecodable c m front → f ++ r ≡ front ++ rest
    → Past (λ x. IsDecodable c m (j ∷ x)) r rest
tag_past c full m j f r [] rest p w e = absurd (full m w.0 w.1)
tag_past c full m j f r (b ∷ front) rest p w e =
    let e' : j ∷ r ≡ b ∷ (front ++ rest) = ap (λ z. z ++ r) (sym p) ∙ e in
    let heads : b ≡ j = cc in
    record { more = front; whole = cc; holds = subst (λ z. IsDecodable c m (z ∷ front)) heads w }

denied_tag : {A : Type 0} (c : Codec A) {j : ℕ} {s t u : ReaderState} {k : ErrorKind} → NonEmpty c → TakesPrefix (λ x. x ≡ j ∷ []) s t → NotDecodedAfterTag j A c t u k → NotDecoded A c s u k
denied_tag c {j = j} {s = s} {t = t} {u = u} {k = k} full p r =
    let r' = subst (λ m. ReadFails c.decoding_allocates c.texts_allocate (λ x. IsDecodable c m (j ∷ x)) t u k) p.takes.strict_order r.refused in
    record { refused = refused_after (λ e. e) (λ e. e) p (tag_past c full s.strict_order j) r' }

no_tag : {A : Type 0} (c : Codec A) → NonEmpty c → (m : Bool) (o : Option (List ℕ)) → NoPrefix (IsDecodable any_byte m) o → NoPrefix (IsDecodable c m) o
no_tag c full m o none [] rest e w = full m w.0 w.1
no_tag c full m o none (b ∷ front) rest e w = none (b ∷ []) (front ++ rest) e (b, refl)

module _ {A R : Type 0} (c : Codec A) {state : R → ReaderState} {a b : R} (full : NonEmpty c) (n : c.refuses ≡ false) where
  -- there is no tag
  pub enum_no_tag : (e : Error) {r : Result A Error} → IsErrAnd r (λ y. y ≡ e) → Decodes any_byte state a b (Err e) → Decodes c state a b r
  enum_no_tag e is f = decodes_exit e is (decodes_err n (record { refused = refused_map (λ h. absurd (true≢false (sym h))) (λ h. absurd (true≢false (sym h))) (no_tag c full (state a).strict_order) f.err.refused }))

  -- there is one, and what is behind it was read or refused
  pub enum_tagged : {d : R} {j : ℕ} {r : Result A Error} → Decodes any_byte state a b (Ok j) → DecodesAfterTag j c state b d r → Decodes c state a d r
  enum_tagged {r = r} t q = record {
    ok = IfOk-weaker r _ _ (λ v p. reads_tag (byte_took t.ok) p) q.ok;
    err = IfErr-weaker r _ _ (λ e p. denied_tag c full (byte_took t.ok) p) q.err;
    untouched = λ h. absurd (true≢false (sym h ∙ n));
  }
