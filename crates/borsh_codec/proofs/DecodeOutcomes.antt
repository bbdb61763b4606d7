-- Outcomes of reads that follow one another, over the whole answer of a call.
use Rattle.std.proofs.Common.{◌≡◌, ◌∙◌, ℕ, [], ◌∷◌, arith, Bool, true, false, length, List, Option, Some, Result, Ok, Err, IfErr, inl, true≢false, refl, sym, ap, subst}
use Rattle.std.specs.Result.{IsErrAnd, IfOk}
use Rattle.std.proofs.lemmas.Result.{err_from_is_err_and, IfOk-weaker, IfErr-weaker}
use Rattle.borsh_io.specs.declared.error.Error.{Error}
use Rattle.borsh_io.specs.declared.error.ErrorKind.{ErrorKind}
use Rattle.borsh_io.specs.declared.error.ErrorKind.TheVariants.{InvalidData, OutOfMemory}
use Rattle.borsh_io.specs.Errors.{error_kind}
use Rattle.borsh_io.specs.Stream.{ReaderState}
use Rattle.borsh_codec.specs.Codec.{Codec, IsDecodable, Lawful}
use Rattle.borsh_codec.specs.Shapes.{contramap, allocated, decoded_with, refused_if, pair}
use Rattle.borsh_codec.specs.Untouched.{Untouched}
use Rattle.borsh_codec.specs.Reading.{TakesPrefix, NoPrefix, Decoded, NotDecoded, DecodedAll, NotDecodedAll, ReadFails, WhyNotDecoded, Decodes, DecodesAfterTag, DecodesReader, DecodesAll, IsReEncodable, any_byte}
use Rattle.borsh_codec.proofs.ReadParts.{reads_contramap, denied_contramap, denied_value, denied_pair_first, denied_pair_second, denied_no_tag, reads_exact, denied_exact, reads_pair, reads_stored, denied_stored, reads_allowed, denied_allowed, denied_refused, reads_tag, denied_tag}
use Rattle.borsh_codec.proofs.ReadSteps.{took_weaker, refused_map, denied_memory}
use Rattle.borsh_codec.proofs.ReadWhole.{whole_refused, whole_of_all, made_of_all, not_whole_of_all}

-- the outcome at the exit of a `?`
pub decodes_exit : {A R : Type 0} {c : Codec A} {state : R → ReaderState} {a b : R} (e : Error) {r : Result A Error} → IsErrAnd r (λ y. y ≡ e) → Decodes c state a b (Err e) → Decodes c state a b r
decodes_exit {c = c} {state = state} {a = a} {b = b} e {r = r} is f =
    let p = err_from_is_err_and r is in
    subst (Decodes c state a b) (sym (p.1 ∙ ap (λ y. Err y) p.2)) f

-- a type that reads before it refuses
pub decodes_err : {A R : Type 0} {c : Codec A} {state : R → ReaderState} {a b : R} {e : Error} → c.refuses ≡ false → NotDecoded A c (state a) (state b) (error_kind e) → Decodes c state a b (Err e)
decodes_err n f = record { ok = tt; err = f; untouched = λ e. absurd (true≢false (sym e ∙ n)) }

pub decodes_ok : {A R : Type 0} {c : Codec A} {state : R → ReaderState} {a b : R} {v : A} → c.refuses ≡ false → Decoded A c (state a) (state b) v → Decodes c state a b (Ok v)
decodes_ok n f = record { ok = f; err = tt; untouched = λ e. absurd (true≢false (sym e ∙ n)) }

-- nothing is read of a type that refuses all values
pub never_ok : {A R : Type 0} {c : Codec A} {state : R → ReaderState} {a b : R} {v : A} → Decodes c state a b (Ok v) → c.refuses ≡ true → ⊥
never_ok d e = (d.untouched e).kind

pub untouched_err : {A B R : Type 0} {a b : R} {e : Error} → Untouched {T = A} a b (Err e) → Untouched {T = B} a b (Err e)
untouched_err u = record { kind = u.kind; still = u.still }

-- the parts of a value were not read
pub decodes_exit_contramap : {A B R : Type 0} (view : B → A) {c : Codec A} {state : R → ReaderState} {a b : R} (e : Error) {r : Result B Error} → IsErrAnd r (λ y. y ≡ e) → Decodes c state a b (Err e) → Decodes (contramap view c) state a b r
decodes_exit_contramap view e is f = decodes_exit e is (record { ok = tt; err = denied_contramap view f.err; untouched = λ h. untouched_err (f.untouched h) })

-- a value was put together from parts that were read
pub reads_made : {A B : Type 0} (view : B → A) {c : Codec A} {s t : ReaderState} {v : A} {w : B} → view w ≡ v → Decoded A c s t v → Decoded B (contramap view c) s t w
reads_made view {c = c} {s = s} {t = t} e r = reads_contramap view (subst (λ u. Decoded _ c s t u) (sym e) r)

pub decodes_made : {A B R : Type 0} (view : B → A) {c : Codec A} {state : R → ReaderState} {a b : R} {v : A} {w : B} → view w ≡ v → Decodes c state a b (Ok v) → Decodes (contramap view c) state a b (Ok w)
decodes_made view e d = record { ok = reads_made view e d.ok; err = tt; untouched = λ h. absurd (never_ok d h) }

-- P is true of what was decoded
pub decodes_with : {A R : Type 0} (P : A → Type 0) {c : Codec A} {state : R → ReaderState} {a b : R} (r : Result A Error) → IfOk r P → Decodes c state a b r → Decodes (decoded_with P c) state a b r
decodes_with P (Ok v) p d = record { ok = record { took = d.ok.took; made = (p, d.ok.made) }; err = tt; untouched = d.untouched }
decodes_with P (Err e) p d = record { ok = tt; err = record { refused = d.err.refused }; untouched = d.untouched }

-- no value has the parts that were read
pub decodes_not_made : {A B R : Type 0} (view : B → A) {c : Codec A} {state : R → ReaderState} {a b : R} {v : A} {e : Error} → Lawful A c → ((w : B) → c.equivalent (view w) v → ⊥) → error_kind e ≡ InvalidData → Decodes c state a b (Ok v) → Decodes (contramap view c) state a b (Err e)
decodes_not_made view l none k d = record { ok = tt; err = denied_value view l d.ok (inl k) none; untouched = λ h. absurd (never_ok d h) }

-- ---- two parts

pub decodes_pair_first : {A B R : Type 0} {p : Codec A} (q : Codec B) {state : R → ReaderState} {a b : R} (e : Error) {r : Result (A × B) Error} → IsErrAnd r (λ y. y ≡ e) → Decodes p state a b (Err e) → Decodes (pair p q) state a b r
decodes_pair_first q e is d = decodes_exit e is (record { ok = tt; err = denied_pair_first q d.err; untouched = λ h. untouched_err (d.untouched h) })

pub decodes_pair_second : {A B R : Type 0} {p : Codec A} {q : Codec B} {state : R → ReaderState} {a b d : R} {v : A} (e : Error) {r : Result (A × B) Error} → Lawful A p → Decodes p state a b (Ok v) → IsErrAnd r (λ y. y ≡ e) → Decodes q state b d (Err e) → Decodes (pair p q) state a d r
decodes_pair_second e l o is f = decodes_exit e is (record { ok = tt; err = denied_pair_second l o.ok f.err; untouched = λ h. absurd (never_ok o h) })

pub decodes_pair : {A B R : Type 0} {p : Codec A} {q : Codec B} {state : R → ReaderState} {a b d : R} {v : A} {w : B} → Decodes p state a b (Ok v) → Decodes q state b d (Ok w) → Decodes (pair p q) state a d (Ok (v, w))
decodes_pair o f = record { ok = reads_pair o.ok f.ok; err = tt; untouched = λ h. absurd (never_ok o h) }

-- ---- a value in memory of its own

pub decodes_stored_exit : {A B R : Type 0} (view : B → A) {c : Codec A} {state : R → ReaderState} {a b : R} (e : Error) {r : Result B Error} → IsErrAnd r (λ y. y ≡ e) → Decodes c state a b (Err e) → Decodes (contramap view (allocated c)) state a b r
decodes_stored_exit view e is d = decodes_exit e is (record { ok = tt; err = denied_contramap view (denied_stored d.err); untouched = λ h. untouched_err (d.untouched h) })

pub decodes_stored_memory : {A B R : Type 0} (view : B → A) {c : Codec A} {state : R → ReaderState} {a b : R} {v : A} (e : Error) {r : Result B Error} → r ≡ Err e → error_kind e ≡ OutOfMemory → Decodes c state a b (Ok v) → Decodes (contramap view (allocated c)) state a b r
decodes_stored_memory view {c = c} {state = state} {a = a} {b = b} e is k d = subst (Decodes (contramap view (allocated c)) state a b) (sym is) (record { ok = tt; err = denied_memory refl d.ok.took k; untouched = λ h. absurd (never_ok d h) })

pub decodes_stored : {A B R : Type 0} (view : B → A) {c : Codec A} {state : R → ReaderState} {a b : R} {v : A} {w : B} → view w ≡ v → Decodes c state a b (Ok v) → Decodes (contramap view (allocated c)) state a b (Ok w)
decodes_stored view {c = c} e d = record { ok = reads_made view {c = allocated c} e (reads_stored d.ok); err = tt; untouched = λ h. absurd (never_ok d h) }

-- ---- elements

-- elements without bytes are refused
pub decodes_list : {A B R : Type 0} (refused : Bool) (c : Codec A) (view : B → A) {state : R → ReaderState} {a : R} {e : Error} → refused ≡ true → error_kind e ≡ InvalidData → Decodes (contramap view (refused_if refused c)) state a a (Err e)
decodes_list refused c view {state = state} {a = a} y k = record { ok = tt; err = denied_contramap view (denied_refused refused c (state a) y (inl k)); untouched = λ h. record { kind = k; still = refl } }

pub decodes_list_allowed : {A B R : Type 0} (refused : Bool) (view : B → A) {c : Codec A} {state : R → ReaderState} {a b : R} (r : Result B Error) → refused ≡ false → IfOk r (λ v. Decoded A c (state a) (state b) (view v)) → IfErr r (λ e. NotDecoded A c (state a) (state b) (error_kind e)) → Decodes (contramap view (refused_if refused c)) state a b r
decodes_list_allowed refused view (Ok v) n p q = record { ok = reads_contramap view (reads_allowed refused n p); err = tt; untouched = λ h. absurd (true≢false (sym h ∙ n)) }
decodes_list_allowed refused view (Err e) n p q = record { ok = tt; err = denied_contramap view (denied_allowed refused q); untouched = λ h. absurd (true≢false (sym h ∙ n)) }

-- there is no tag
pub decodes_no_tag : {A R : Type 0} {c : Codec A} {state : R → ReaderState} {a b : R} → Lawful A c → c.is_zero_width ≡ false → c.refuses ≡ false → (e : Error) {r : Result A Error} → IsErrAnd r (λ y. y ≡ e) → ReadFails false false (λ x. length x ≡ 1) (state a) (state b) (error_kind e) → Decodes c state a b r
decodes_no_tag l full n e is f = decodes_exit e is (decodes_err n (denied_no_tag l full f))

byte_long : (b : ℕ) (x : List ℕ) → Some (b ∷ []) ≡ Some x → length x ≡ 1
byte_long b x e = let f : b ∷ [] ≡ x = cc in ap length (sym f)

pub byte_decoded : {s t : ReaderState} {b : ℕ} → TakesPrefix (λ x. x ≡ b ∷ []) s t → Decoded ℕ any_byte s t b
byte_decoded {b = b} p = reads_exact (λ b. Some (b ∷ [])) false refl p

pub byte_not_decoded : {s t : ReaderState} {k : ErrorKind} → ReadFails false false (λ x. length x ≡ 1) s t k → NotDecoded ℕ any_byte s t k
byte_not_decoded r = denied_exact (λ b. Some (b ∷ [])) 1 false byte_long r

pub byte_took : {s t : ReaderState} {b : ℕ} → Decoded ℕ any_byte s t b → TakesPrefix (λ x. x ≡ b ∷ []) s t
byte_took {b = b} r = took_weaker (λ x e. (let f : b ∷ [] ≡ x = cc in sym f)) r.took

no_byte : (m : Bool) (o : Option (List ℕ)) → NoPrefix (IsDecodable any_byte m) o → NoPrefix (λ x. length x ≡ 1) o
no_byte m o none [] rest e l = absurd (omega (arith, l))
no_byte m o none (b ∷ []) rest e l = none (b ∷ []) rest e (b, refl)
no_byte m o none (b ∷ c ∷ xs) rest e l = absurd (omega (arith, l))

-- there is no tag, and so no value of a type that isn't empty
pub decodes_no_byte : {A R : Type 0} {c : Codec A} {state : R → ReaderState} {a b : R} → Lawful A c → c.is_zero_width ≡ false → c.refuses ≡ false → (e : Error) {r : Result A Error} → IsErrAnd r (λ y. y ≡ e) → Decodes any_byte state a b (Err e) → Decodes c state a b r
decodes_no_byte {state = state} {a = a} l full n e is f = decodes_exit e is (decodes_err n (denied_no_tag l full (refused_map (λ h. h) (λ h. h) (no_byte (state a).strict_order) f.err.refused)))

-- ---- a value after a tag

-- the tag is that of a variant, and the rest of the value is decoded or refused after it
pub decodes_tagged : {A R : Type 0} {c : Codec A} {state : R → ReaderState} {a b d : R} {j : ℕ} {r : Result A Error} → Lawful A c → c.is_zero_width ≡ false → c.refuses ≡ false → Decodes any_byte state a b (Ok j) → DecodesAfterTag j c state b d r → Decodes c state a d r
decodes_tagged {r = r} l full n t q = record {
  ok = IfOk-weaker r _ _ (λ v p. reads_tag (byte_took t.ok) p) q.ok;
  err = IfErr-weaker r _ _ (λ e p. denied_tag l full (byte_took t.ok) p) q.err;
  untouched = λ h. absurd (true≢false (sym h ∙ n));
}

-- ---- all of the bytes

module _ {A : Type 0} {c : Codec A} (l : Lawful A c) where
  re_encodable : (strict : Bool) (xs : List ℕ) (v : A) → c.decodes strict xs v → IsReEncodable c v
  re_encodable strict xs v r =
      let h = l.re_encodable strict xs v r in
      let q = l.round_trip true v h.0 h.1 in
      record { bytes = h.0; is = h.1; decodes = q; once = λ w p. l.unambiguous true h.0 w v p q }

  pub decodes_all : (strict : Bool) (xs : List ℕ) (r : Result A Error) → IfOk r (λ v. c.decodes strict xs v) → IfOk r c.made → IfErr r (λ e. WhyNotDecoded c strict xs (error_kind e)) → (c.refuses ≡ true → IsErrAnd r (λ e. error_kind e ≡ InvalidData)) → DecodesAll c strict xs r
  decodes_all strict xs (Ok v) p m q u = record {
    ok = p;
    made = m;
    err = tt;
    exact = whole_refused strict xs l (Ok v) p tt;
    canonical = λ s e. l.canonical xs v e (subst (λ m. c.decodes m xs v) s p);
    re_encodable = re_encodable strict xs v p;
    refused = u;
  }
  decodes_all strict xs (Err e) p m q u = record { ok = tt; made = tt; err = q; exact = whole_refused strict xs l (Err e) tt q; canonical = λ s e. tt; re_encodable = tt; refused = u }

  -- at the exit of a `?`
  pub decodes_all_exit : {R : Type 0} {state : R → ReaderState} {a b : R} {strict : Bool} {xs : List ℕ} (e : Error) {r : Result A Error} → IsErrAnd r (λ y. y ≡ e) → Decodes c state a b (Err e) → WhyNotDecoded c strict xs (error_kind e) → DecodesAll c strict xs r
  decodes_all_exit {strict = strict} {xs = xs} e {r = r} is d f =
      let p = err_from_is_err_and r is in
      subst (DecodesAll c strict xs) (sym (p.1 ∙ ap (λ y. Err y) p.2)) (decodes_all strict xs (Err e) tt tt f (λ h. (d.untouched h).kind))

  -- a value was decoded, and bytes are left
  pub decodes_all_err : {R : Type 0} {state : R → ReaderState} {a b : R} {v : A} {strict : Bool} {xs : List ℕ} {e : Error} → Decodes c state a b (Ok v) → WhyNotDecoded c strict xs (error_kind e) → DecodesAll c strict xs (Err e)
  decodes_all_err {strict = strict} {xs = xs} {e = e} d f = decodes_all strict xs (Err e) tt tt f (λ h. absurd (never_ok d h))

  pub decodes_all_ok : {R : Type 0} {state : R → ReaderState} {a b : R} {v : A} {strict : Bool} {xs : List ℕ} → Decodes c state a b (Ok v) → c.decodes strict xs v → DecodesAll c strict xs (Ok v)
  decodes_all_ok {v = v} {strict = strict} {xs = xs} d f = decodes_all strict xs (Ok v) f d.ok.made tt (λ h. absurd (never_ok d h))

  -- ---- all that a reader has

  decodes_reader : {R : Type 0} {state : R → ReaderState} {a b : R} (r : Result A Error) → IfOk r (λ v. DecodedAll A c (state a) (state b) v) → IfErr r (λ e. NotDecodedAll A c (state a) (state b) (error_kind e)) → (c.refuses ≡ true → Untouched a b r) → DecodesReader c state a b r
  decodes_reader {state = state} {a = a} {b = b} r p q u = record {
    ok = p;
    err = q;
    whole = λ xs told calm. decodes_all (state a).strict_order xs r
        (IfOk-weaker r _ _ (λ v h. whole_of_all xs told calm h) p) (IfOk-weaker r _ _ (λ v h. made_of_all xs told calm h) p) (IfErr-weaker r _ _ (λ e h. not_whole_of_all xs told calm h) q) (λ h. (u h).kind);
    untouched = u;
  }

  -- no value was decoded
  pub decodes_reader_exit : {R : Type 0} {state : R → ReaderState} {a b : R} (e : Error) {r : Result A Error} → IsErrAnd r (λ y. y ≡ e) → Decodes c state a b (Err e) → DecodesReader c state a b r
  decodes_reader_exit {state = state} {a = a} {b = b} e {r = r} is f =
      let p = err_from_is_err_and r is in
      subst (DecodesReader c state a b) (sym (p.1 ∙ ap (λ y. Err y) p.2)) (decodes_reader (Err e) tt (inl f.err) f.untouched)

  -- a value was decoded, and what follows it is no end
  pub decodes_reader_err : {R : Type 0} {state : R → ReaderState} {a b d : R} {v : A} {e : Error} → Decodes c state a b (Ok v) → NotDecodedAll A c (state a) (state d) (error_kind e) → DecodesReader c state a d (Err e)
  decodes_reader_err {e = e} d f = decodes_reader (Err e) tt f (λ h. absurd (never_ok d h))

  pub decodes_reader_ok : {R : Type 0} {state : R → ReaderState} {a b d : R} {v : A} → Decodes c state a b (Ok v) → DecodedAll A c (state a) (state d) v → DecodesReader c state a d (Ok v)
  decodes_reader_ok {v = v} d f = decodes_reader (Ok v) f tt (λ h. absurd (never_ok d h))
