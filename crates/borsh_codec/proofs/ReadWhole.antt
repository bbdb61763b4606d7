-- All of the bytes that are to come.
use Rattle.std.proofs.Common.{◌≡◌, ◌≢◌, ℕ, ◌+◌, ◌<◌, Bool, true, false, List, [], ◌∷◌, ◌++◌, length, Option, Some, None, IfSome, OnSome, Result, Ok, Err, IfOk, IfErr, MatchResult, ◌⊎◌, refl, sym, ◌∙◌, ap, subst, inl, inr, append-nil, arith, eqb, eqb-true, eq-eqb, true≢false}
use Rattle.std.specs.Io.KnownBytes.{Consumes, IsAtEnd}
use Rattle.borsh_io.specs.declared.error.ErrorKind.{ErrorKind}
use Rattle.borsh_io.specs.declared.error.ErrorKind.TheVariants.{InvalidData, OutOfMemory, UnexpectedEof}
use Rattle.borsh_io.specs.declared.error.Error.{Error}
use Rattle.borsh_io.specs.Errors.{error_kind}
use Rattle.borsh_io.specs.Stream.{ReaderState, CountedUp, Consumed, ConsumedSome, ReadExactFailure, slice_state}
use Rattle.borsh_io.proofs.WriteLaws.{Rose-after}
use Rattle.borsh_codec.specs.Codec.{Codec, IsDecodable, Lawful}
use Rattle.borsh_codec.proofs.Laws.Lists.{nil_of_length, nil_parts}
use Rattle.borsh_codec.specs.Reading.{NoPrefix, ReadFailure, Decoded, NotDecoded, WhyNotDecoded, DecodedAll, IsWholeInput, NotDecodedAll}
use Rattle.borsh_codec.specs.Reading.ReadFailure.{malformed, no_memory, reader_failed}
use Rattle.borsh_codec.specs.Reading.WhyNotDecoded.{malformed as not_reading, no_memory as not_memory}
use Rattle.borsh_codec.proofs.ReadSteps.{told_after}

-- ---- a slice

-- a slice is read whole where nothing is left
pub whole_read : {A : Type 0} {c : Codec A} {xs : List ℕ} (ys : List ℕ) {v : A} → ys ≡ [] → Decoded A c (slice_state xs) (slice_state ys) v → c.decodes true xs v
whole_read {c = c} {xs = xs} ys {v = v} e r =
    let w : xs ≡ r.took.front = r.took.takes.bytes ∙ ap (λ z. r.took.front ++ z) e ∙ append-nil r.took.front in
    subst (λ z. c.decodes true z v) (sym w) r.took.holds

-- and decodes to nothing where something is left
pub not_whole : {A : Type 0} {c : Codec A} {xs : List ℕ} (ys : List ℕ) {v : A} → Lawful A c → (ys ≡ [] → ⊥) → Decoded A c (slice_state xs) (slice_state ys) v → IsDecodable c true xs → ⊥
not_whole {c = c} ys {v = v} l more r w =
    more (l.prefix_free true r.took.front ys v w.0 r.took.holds (subst (λ z. c.decodes true z w.0) r.took.takes.bytes w.1))

pub no_fault : CountedUp 0 0 → ⊥
no_fault r = let one : 0 ≡ 0 + 1 = r.0 (omega arith) in omega arith

not_whole_why : {A : Type 0} {c : Codec A} {xs ys : List ℕ} {k : ErrorKind} → ReadFailure c.decoding_allocates c.texts_allocate (IsDecodable c true) (slice_state xs) (slice_state ys) k → WhyNotDecoded c true xs k
not_whole_why {xs = xs} (malformed r e none) = not_reading r (λ w. none xs [] (ap Some (sym (append-nil xs))) w)
not_whole_why (no_memory r e m) = not_memory r m
not_whole_why (reader_failed r n) = absurd (no_fault r)

pub whole_denied : {A : Type 0} {c : Codec A} (xs ys : List ℕ) {k : ErrorKind} → NotDecoded A c (slice_state xs) (slice_state ys) k → WhyNotDecoded c true xs k
whole_denied xs ys r = not_whole_why r.refused.why

pub nil_when : (b : Bool) (ys : List ℕ) → b ≡ eqb (length ys) 0 → b ≡ true → ys ≡ []
nil_when b ys e f = nil_of_length ys (eqb-true (length ys) 0 (sym e ∙ f))

pub more_when : (b : Bool) (ys : List ℕ) → b ≡ eqb (length ys) 0 → b ≡ false → ys ≡ [] → ⊥
more_when b ys e f n = let z : length ys ≡ 0 = ap length n in true≢false (sym (eq-eqb (length ys) 0 z) ∙ sym e ∙ f)

-- ---- a reader

-- a byte is left behind the value
pub denied_more : {A : Type 0} {c : Codec A} {s t u : ReaderState} {v : A} {b : List ℕ} {k : ErrorKind} → Lawful A c → Decoded A c s t v → Consumed t u b → length b ≡ 1 → k ≡ InvalidData → NotDecodedAll A c s u k
denied_more {A = A} {c = c} {s = s} {t = t} {u = u} {v = v} {b = b} l p q one is = inr (record {
  value = v;
  mid = t;
  decoded = p;
  tail = record { front = b; bytes = q.bytes; interruptions = q.interruptions; reads_left = q.reads_left; strict_order = q.strict_order };
  invalid = is;
  why = inl (q.faults ∙ p.took.takes.faults, none);
})
  where
    none : NoPrefix (IsWholeInput A c s) s.bytes
    none front rest e w =
        let f : s.bytes ≡ Some front = w.all in
        let o = told_after s.bytes t.bytes front p.took.front f p.took.takes.bytes in
        let o' = told_after t.bytes u.bytes o.0 b o.1 q.bytes in
        let left = l.prefix_free s.strict_order p.took.front o.0 v w.decodes.0 p.took.holds (subst (λ z. c.decodes s.strict_order z w.decodes.0) o.2 w.decodes.1) in
        omega (arith, ap length left, ap length o'.2, Rattle.std.proofs.Common.length-append b o'.0)

-- the reader failed behind the value, with another kind than `UnexpectedEof`
pub denied_failed : {A : Type 0} {c : Codec A} {s t u : ReaderState} {v : A} {k e : ErrorKind} → Decoded A c s t v → ConsumedSome t u → ReadExactFailure t u 1 e → e ≢ UnexpectedEof → k ≡ InvalidData → NotDecodedAll A c s u k
denied_failed p tail (inl x) other is = absurd (other x.0)
denied_failed {t = t} {v = v} p tail (inr r) other is = inr (record {
  value = v;
  mid = t;
  decoded = p;
  tail = tail;
  invalid = is;
  why = inr (Rose-after p.took.takes.faults r.0, λ h. other (cc (r.2, h)));
})

-- the reader ends behind the value, or failed
module _ {A : Type 0} {c : Codec A} {s t u : ReaderState} {v : A} (p : Decoded A c s t v) (tail : ConsumedSome t u) where
  ended : (xs : List ℕ) → s.bytes ≡ Some xs → IfSome t.bytes (λ ys. length ys < 1) → (xs ≡ p.took.front) × (u.bytes ≡ Some []) × (tail.front ≡ [])
  ended xs e short =
      let o = told_after s.bytes t.bytes xs p.took.front e p.took.takes.bytes in
      let none : o.0 ≡ [] = nil_of_length o.0 (let h : length o.0 < 1 = subst (λ z. IfSome z (λ ys. length ys < 1)) o.1 short in omega arith) in
      let q = told_after t.bytes u.bytes o.0 tail.front o.1 tail.bytes in
      let parts = nil_parts tail.front q.0 (sym none ∙ q.2) in
      (o.2 ∙ ap (λ z. p.took.front ++ z) none ∙ append-nil p.took.front, q.1 ∙ ap Some parts.1, parts.0)

  takes : (o : Option (List ℕ)) → s.bytes ≡ o → IfSome t.bytes (λ ys. length ys < 1) → Consumes o u.bytes p.took.front
  takes None e short = tt
  takes (Some xs) e short =
      let h = ended xs e short in
      subst (λ z. Consumes (Some xs) z p.took.front) (sym h.1) (h.0 ∙ sym (append-nil p.took.front))

  whole : (o : Option (List ℕ)) → s.bytes ≡ o → IfSome t.bytes (λ ys. length ys < 1) → IfSome o (λ xs. c.decodes s.strict_order xs v)
  whole None e short = tt
  whole (Some xs) e short = subst (λ x. c.decodes s.strict_order x v) (sym (ended xs e short).0) p.took.holds

  at_end : (o : Option (List ℕ)) → s.bytes ≡ o → IfSome t.bytes (λ ys. length ys < 1) → OnSome o (IsAtEnd u.bytes)
  at_end None e short = tt
  at_end (Some xs) e short = subst IsAtEnd (sym (ended xs e short).1) refl

  pub reads_all : {k : ErrorKind} → k ≡ UnexpectedEof → ReadExactFailure t u 1 k → DecodedAll A c s u v
  reads_all is (inl x) = inl (record {
    decoded = record {
      took = record {
        front = p.took.front;
        takes = record {
          bytes = takes s.bytes refl x.1;
          faults = x.2 ∙ p.took.takes.faults;
          last_failure = x.3 ∙ p.took.takes.last_failure;
          interruptions = omega (arith, p.took.takes.interruptions, tail.interruptions);
          reads_left = omega (arith, p.took.takes.reads_left, tail.reads_left);
          strict_order = tail.strict_order ∙ p.took.takes.strict_order;
        };
        holds = p.took.holds;
      };
      made = p.made;
    };
    whole = whole s.bytes refl x.1;
    ended = at_end s.bytes refl x.1;
  })
  reads_all is (inr r) = inr (record { mid = t; decoded = p; tail = tail; failed = Rose-after p.took.takes.faults r.0; as_end = r.2 ∙ ap Some is })

-- ---- a reader whose bytes are known, and of which no fault was counted

module _ {A : Type 0} {c : Codec A} {s t : ReaderState} (xs : List ℕ) (told : s.bytes ≡ Some xs) (calm : CountedUp s.faults t.faults → ⊥) where
  pub whole_of_all : {v : A} → DecodedAll A c s t v → c.decodes s.strict_order xs v
  whole_of_all {v = v} (inl r) = subst (λ o. IfSome o (λ ys. c.decodes s.strict_order ys v)) told r.whole
  whole_of_all (inr r) = absurd (calm r.failed)

  pub made_of_all : {v : A} → DecodedAll A c s t v → c.made v
  made_of_all (inl r) = r.decoded.made
  made_of_all (inr r) = r.decoded.made

  why : {k : ErrorKind} → ReadFailure c.decoding_allocates c.texts_allocate (IsDecodable c s.strict_order) s t k → WhyNotDecoded c s.strict_order xs k
  why (malformed r e none) = not_reading r (none xs [] (told ∙ ap Some (sym (append-nil xs))))
  why (no_memory r e m) = not_memory r m
  why (reader_failed r n) = absurd (calm r)

  pub not_whole_of_all : {k : ErrorKind} → NotDecodedAll A c s t k → WhyNotDecoded c s.strict_order xs k
  not_whole_of_all (inl r) = why r.refused.why
  not_whole_of_all (inr r) = elim r.why [
    | inl h ↦ not_reading (inl r.invalid) (λ w. h.1 xs [] (told ∙ ap Some (sym (append-nil xs))) (record { decodes = w; all = told }))
    | inr f ↦ absurd (calm f.0)
  ]

-- ---- what a call over all of the bytes must return

refused_though_decodable : {A : Type 0} {c : Codec A} {m : Bool} {xs : List ℕ} {k : ErrorKind} → IsDecodable c m xs → WhyNotDecoded c m xs k → (k ≡ OutOfMemory) × (c.decoding_allocates ≡ true)
refused_though_decodable p (not_reading r none) = absurd (none p)
refused_though_decodable p (not_memory r m) = (r, m)

-- a value that the bytes decode to is returned up to `equivalent`, unless an allocation failed
pub whole_refused : {A : Type 0} {c : Codec A} (m : Bool) (xs : List ℕ) → Lawful A c → (r : Result A Error) → IfOk r (λ v. c.decodes m xs v) → IfErr r (λ e. WhyNotDecoded c m xs (error_kind e))
    → (x : A) → c.decodes m xs x → MatchResult r (λ y. c.equivalent y x) (λ e. (error_kind e ≡ OutOfMemory) × (c.decoding_allocates ≡ true))
whole_refused m xs l (Ok y) p q x w = l.unambiguous m xs y x p w
whole_refused m xs l (Err e) p q x w = refused_though_decodable (x, w) q
