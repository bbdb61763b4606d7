-- Outcomes of calls that return a value through a view: vectors of the elements that were read, texts, arrays.
use Rattle.std.proofs.Common.{◌≡◌, ◌∙◌, ℕ, Bool, true, false, List, Result, Ok, Err, inl, true≢false, refl, sym, ap, subst}
use Rattle.std.specs.Prelude.{Vec}
use Rattle.std.specs.Global.{Global}
use Rattle.std.specs.Result.{IsErrAnd}
use Rattle.std.proofs.lemmas.Result.{err_from_is_err_and, IfOk-weaker, IfErr-weaker}
use Rattle.borsh_io.specs.declared.error.Error.{Error}
use Rattle.borsh_io.specs.declared.error.ErrorKind.TheVariants.{InvalidData, OutOfMemory}
use Rattle.borsh_io.specs.Errors.{error_kind}
use Rattle.borsh_io.specs.Stream.{ReaderState}
use Rattle.borsh_codec.specs.Codec.{Codec}
use Rattle.borsh_codec.specs.Shapes.{contramap, refused_if, unsigned, allocated_array, length_prefixed}
use Rattle.borsh_codec.specs.Reading.{TakesPrefix, Decoded, NotDecoded, Decodes, DecodesAs, DecodesVec}
use Rattle.borsh_codec.proofs.ReadParts.{reads_contramap, denied_contramap, reads_allowed, denied_allowed, denied_refused}
use Rattle.borsh_codec.proofs.ReadSteps.{denied_memory}
use Rattle.borsh_codec.proofs.ReadRows.{reads_counted, denied_count, denied_counted}
use Rattle.borsh_codec.proofs.DecodeOutcomes.{untouched_err}

-- what was answered, by its own type
pub decodes_as : {A B R : Type 0} {view : B → A} {c : Codec A} {state : R → ReaderState} {a b : R} {r : Result B Error} → DecodesAs view c state a b r → Decodes (contramap view c) state a b r
decodes_as {view = view} {c = c} {r = r} d = record {
  ok = IfOk-weaker r _ _ (λ v p. reads_contramap view {c = c} p) d.ok;
  err = IfErr-weaker r _ _ (λ e p. denied_contramap view {c = c} p) d.err;
  untouched = d.untouched;
}

-- the error of the part is the answer
pub as_exit : {A B R : Type 0} {view : B → A} {c : Codec A} {state : R → ReaderState} {a b : R} (e : Error) {r : Result B Error} → IsErrAnd r (λ y. y ≡ e) → DecodesAs view c state a b (Err e) → DecodesAs view c state a b r
as_exit {view = view} {c = c} {state = state} {a = a} {b = b} e {r = r} is f =
    let p = err_from_is_err_and r is in
    subst (DecodesAs view c state a b) (sym (p.1 ∙ ap (λ y. Err y) p.2)) f

-- nothing is read of a type that refuses all values
pub as_never_ok : {A B R : Type 0} {view : B → A} {c : Codec A} {state : R → ReaderState} {a b : R} {v : B} → DecodesAs view c state a b (Ok v) → c.refuses ≡ true → ⊥
as_never_ok d e = (d.untouched e).kind

-- a value was made that shows the same
pub decodes_as_made : {A B C R : Type 0} {view : B → A} (look : C → A) {c : Codec A} {state : R → ReaderState} {a b : R} {v : B} {w : C} → look w ≡ view v → DecodesAs view c state a b (Ok v) → Decodes (contramap look c) state a b (Ok w)
decodes_as_made {view = view} look {c = c} {state = state} {a = a} {b = b} same d =
    decodes_as {view = look} {c = c} (record { ok = subst (λ u. Decoded _ c (state a) (state b) u) (sym same) d.ok; err = tt; untouched = λ h. absurd (as_never_ok d h) })

-- ---- a type that reads before it refuses

pub as_err : {A B R : Type 0} {view : B → A} {c : Codec A} {state : R → ReaderState} {a b : R} (e : Error) {r : Result B Error} → IsErrAnd r (λ y. y ≡ e) → c.refuses ≡ false → NotDecoded A c (state a) (state b) (error_kind e) → DecodesAs view c state a b r
as_err {view = view} e is n f = as_exit {view = view} e is (record { ok = tt; err = f; untouched = λ h. absurd (true≢false (sym h ∙ n)) })

-- an allocation failed for what was read so far
pub as_memory : {A B R : Type 0} {view : B → A} {c : Codec A} {state : R → ReaderState} {a b : R} {P : List ℕ → Type 0} (Q : Error → Type 0) {r : Result B Error} → c.decoding_allocates ≡ true → c.refuses ≡ false → IsErrAnd r (λ e. (error_kind e ≡ OutOfMemory) × Q e) → TakesPrefix P (state a) (state b) → DecodesAs view c state a b r
as_memory {view = view} {c = c} {state = state} {a = a} {b = b} Q {r = r} m n is took =
    let p = err_from_is_err_and r is in
    subst (DecodesAs view c state a b) (sym p.1) (record { ok = tt; err = denied_memory {c = c} m took p.2.0; untouched = λ h. absurd (true≢false (sym h ∙ n)) })

pub as_not : {A B R : Type 0} {view : B → A} {c : Codec A} {state : R → ReaderState} {a b : R} {e : Error} → c.refuses ≡ false → NotDecoded A c (state a) (state b) (error_kind e) → DecodesAs view c state a b (Err e)
as_not n f = record { ok = tt; err = f; untouched = λ h. absurd (true≢false (sym h ∙ n)) }

pub as_ok : {A B R : Type 0} {view : B → A} {c : Codec A} {state : R → ReaderState} {a b : R} {v : B} → c.refuses ≡ false → Decoded A c (state a) (state b) (view v) → DecodesAs view c state a b (Ok v)
as_ok n f = record { ok = f; err = tt; untouched = λ h. absurd (true≢false (sym h ∙ n)) }

-- ---- elements

-- there is no count
pub vec_no_count : {A R : Type 0} (c : Codec A) {state : R → ReaderState} {a b : R} (e : Error) {r : Result (Vec A Global) Error} → IsErrAnd r (λ y. y ≡ e) → Decodes (unsigned 4) state a b (Err e) → DecodesVec (length_prefixed c) state a b r
vec_no_count c e is d = as_err e is refl (denied_count c d.err)

-- a count was read, and as many elements were tried
pub vec_counted : {A R : Type 0} {c : Codec A} {state : R → ReaderState} {a b d : R} {n : ℕ} {r : Result (Vec A Global) Error} → Decodes (unsigned 4) state a b (Ok n) → DecodesVec (allocated_array n c) state b d r → DecodesVec (length_prefixed c) state a d r
vec_counted {r = r} p q = record {
  ok = IfOk-weaker r _ _ (λ v i. reads_counted p.ok i) q.ok;
  err = IfErr-weaker r _ _ (λ e i. denied_counted p.ok i) q.err;
  untouched = λ h. absurd (true≢false (sym h));
}

-- values that are refused before anything is read
pub as_refused : {A B R : Type 0} {view : B → A} (refused : Bool) (c : Codec A) {state : R → ReaderState} {a : R} {e : Error} → refused ≡ true → error_kind e ≡ InvalidData → DecodesAs view (refused_if refused c) state a a (Err e)
as_refused refused c {state = state} {a = a} y k = record { ok = tt; err = denied_refused refused c (state a) y (inl k); untouched = λ h. record { kind = k; still = refl } }

-- and others
pub as_allowed : {A B R : Type 0} {view : B → A} (refused : Bool) {c : Codec A} {state : R → ReaderState} {a b : R} {r : Result B Error} → refused ≡ false → DecodesAs view c state a b r → DecodesAs view (refused_if refused c) state a b r
as_allowed refused {r = r} n d = record {
  ok = IfOk-weaker r _ _ (λ v p. reads_allowed refused n p) d.ok;
  err = IfErr-weaker r _ _ (λ e p. denied_allowed refused p) d.err;
  untouched = λ h. absurd (true≢false (sym h ∙ n));
}

-- ---- a value that is made of one that another codec read; both codecs refuse all values, or neither does

module _ {A B C E R : Type 0} {view : B → A} {c : Codec A} (look : C → E) {d : Codec E} {state : R → ReaderState} {a b : R} where
  -- there is nothing to make it of
  pub made_exit : (e : Error) {r : Result C Error} → IsErrAnd r (λ y. y ≡ e) → (d.refuses ≡ true → c.refuses ≡ true) → (NotDecoded A c (state a) (state b) (error_kind e) → NotDecoded E d (state a) (state b) (error_kind e)) → DecodesAs view c state a b (Err e) → DecodesAs look d state a b r
  made_exit e is m f p = as_exit {view = look} {c = d} e is (record { ok = tt; err = f p.err; untouched = λ h. untouched_err (p.untouched (m h)) })

  -- what was read makes none
  pub made_err : {v : B} (e : Error) {r : Result C Error} → IsErrAnd r (λ y. y ≡ e) → (d.refuses ≡ true → c.refuses ≡ true) → DecodesAs view c state a b (Ok v) → NotDecoded E d (state a) (state b) (error_kind e) → DecodesAs look d state a b r
  made_err e is m p f = as_exit {view = look} {c = d} e is (record { ok = tt; err = f; untouched = λ h. absurd (as_never_ok p (m h)) })

  pub made_ok : {v : B} {w : C} → (d.refuses ≡ true → c.refuses ≡ true) → DecodesAs view c state a b (Ok v) → Decoded E d (state a) (state b) (look w) → DecodesAs look d state a b (Ok w)
  made_ok m p q = record { ok = q; err = tt; untouched = λ h. absurd (as_never_ok p (m h)) }
