-- Writes that follow one another, and refusals behind them.
use Rattle.std.proofs.Common.{◌≡◌, ◌≢◌, ℕ, ◌<◌, Bool, true, List, [], ◌++◌, length, Option, Some, None, refl, sym, ◌∙◌, ap, subst, inl, inr, append_assoc, arith, le_refl, length-append}
use Rattle.borsh_io.specs.declared.error.ErrorKind.{ErrorKind}
use Rattle.borsh_io.specs.declared.error.ErrorKind.TheVariants.{InvalidData, OutOfMemory, Interrupted}
use Rattle.borsh_io.specs.Sink.{WriterModel, WriterLaws, WroteBytes, NotWrittenWhole, WriteAllFailure}
use Rattle.borsh_io.proofs.WriteLaws.{Rose-after, Writes-none, Writes-trans}
use Rattle.borsh_codec.specs.Shapes.{append_encodings}
use Rattle.borsh_codec.proofs.Laws.Lists.{some_same, joined_some, joined_is, joined_none, joined_assoc, joined_nil, or_left, or_right, or_map}
use Rattle.borsh_codec.specs.Writing.{Written, WriteFailure, NotWritten}
use Rattle.borsh_codec.specs.Writing.WriteFailure.{no_encoding, no_memory, full, writer_failed}

-- ---- one write

pub writes_some : {W : Type 0} {w : WriterModel W} {a b : W} {x : List ℕ} → WroteBytes w a b x → Written w a b (Some x)
writes_some {x = x} p = record { bytes = x; is = refl; writes = p }

pub writes_as : {W : Type 0} {w : WriterModel W} {a b : W} {o p : Option (List ℕ)} → o ≡ p → Written w a b o → Written w a b p
writes_as {w = w} {a = a} {b = b} e r = subst (Written w a b) e r

pub write_denied_as : {W : Type 0} {w : WriterModel W} {own : Bool} {a b : W} {o p : Option (List ℕ)} {k : ErrorKind} → o ≡ p → NotWritten own w a b o k → NotWritten own w a b p k
write_denied_as {w = w} {own = own} {a = a} {b = b} {k = k} e r = subst (λ q. NotWritten own w a b q k) e r

why_own : {W : Type 0} {w : WriterModel W} {i j : Bool} {a b : W} {o : Option (List ℕ)} {f : List ℕ} {k : ErrorKind} → (i ≡ true → j ≡ true) → WriteFailure i w a b o f k → WriteFailure j w a b o f k
why_own m (no_encoding r e n) = no_encoding r e n
why_own {w = w} {i = i} {j = j} m (no_memory r e x) = no_memory r e (or_map i j w.allocates m x)
why_own m (full r e f l) = full r e f l
why_own m (writer_failed r) = writer_failed r

-- more may allocate
pub write_denied_own : {W : Type 0} {w : WriterModel W} {i j : Bool} {a b : W} {o : Option (List ℕ)} {k : ErrorKind} → (i ≡ true → j ≡ true) → NotWritten i w a b o k → NotWritten j w a b o k
write_denied_own m r = record { front = r.front; wrote = r.wrote; interruptions = r.interruptions; begins = r.begins; retried = r.retried; why = why_own m r.why }

why_stopped : {W : Type 0} {w : WriterModel W} (own : Bool) {a b : W} {x f : List ℕ} {k : ErrorKind} → length f < length x → WriteAllFailure w a b k → WriteFailure own w a b (Some x) f k
why_stopped own {x = x} h (inl z) = full z.0 z.2 z.1 (λ bytes e. (let i = some_same x bytes e in omega (arith, h, ap length i)))
why_stopped {w = w} own h (inr (inl m)) = no_memory m.0 m.2 (or_right own w.allocates m.1)
why_stopped own h (inr (inr r)) = writer_failed r

-- a buffer was not written whole
pub write_denied_buffer : {W : Type 0} {w : WriterModel W} (own : Bool) {a b : W} {x : List ℕ} {k : ErrorKind} → k ≢ Interrupted → NotWrittenWhole w a b x k → NotWritten own w a b (Some x) k
write_denied_buffer own {x = x} retried r = record {
  front = r.front;
  wrote = r.wrote;
  interruptions = r.interruptions;
  begins = λ bytes e. (r.rest, some_same bytes x (sym e) ∙ r.split);
  retried = retried;
  why = why_stopped own (omega (arith, r.left, ap length r.split, length-append r.front r.rest)) r.cause;
}

module _ {W : Type 0} {w : WriterModel W} (laws : WriterLaws W w) where
  -- nothing was written of a value that has no encoding
  pub write_denied_none : (own : Bool) (a : W) {o : Option (List ℕ)} {k : ErrorKind} → o ≡ None → k ≡ InvalidData → NotWritten own w a a o k
  write_denied_none own a e r = record {
    front = [];
    wrote = laws.none a;
    interruptions = le_refl _;
    begins = λ bytes f. absurd (let g = sym e ∙ f in cc);
    retried = λ i. cc (i, r);
    why = no_encoding r refl e;
  }

  -- nothing was written, since an allocation failed
  pub write_denied_memory : {own : Bool} (a : W) (o : Option (List ℕ)) {k : ErrorKind} → own ≡ true → k ≡ OutOfMemory → NotWritten own w a a o k
  write_denied_memory {own = own} a o m r = record {
    front = [];
    wrote = laws.none a;
    interruptions = le_refl _;
    begins = λ bytes f. (bytes, refl);
    retried = λ i. cc (i, r);
    why = no_memory r refl (or_left own w.allocates m);
  }

  pub writes_nothing : (a : W) → Written w a a (Some [])
  writes_nothing a = writes_some (Writes-none laws a)

  -- ---- two parts in order

  pub writes_both : {a b c : W} {o p : Option (List ℕ)} → Written w a b o → Written w b c p → Written w a c (append_encodings o p)
  writes_both {o = o} {p = p} r q = record { bytes = r.bytes ++ q.bytes; is = joined_is o p r.bytes q.bytes r.is q.is; writes = Writes-trans laws r.writes q.writes }

  why_first : {own : Bool} {a b : W} {o : Option (List ℕ)} (p : Option (List ℕ)) {f : List ℕ} {k : ErrorKind} → WriteFailure own w a b o f k → WriteFailure own w a b (append_encodings o p) f k
  why_first {o = o} p (no_encoding r e n) = no_encoding r e (joined_none o p (inl n))
  why_first p (no_memory r e x) = no_memory r e x
  why_first {o = o} p (full r e f l) = full r e f (λ bytes i. (let j = joined_some o p bytes i in omega (arith, l j.first j.left, ap length j.whole, length-append j.first j.second)))
  why_first p (writer_failed r) = writer_failed r

  pub write_denied_first : {own : Bool} {a b : W} {o : Option (List ℕ)} (p : Option (List ℕ)) {k : ErrorKind} → NotWritten own w a b o k → NotWritten own w a b (append_encodings o p) k
  write_denied_first {o = o} p r = record {
    front = r.front;
    wrote = r.wrote;
    interruptions = r.interruptions;
    begins = λ bytes e. (let j = joined_some o p bytes e in let g = r.begins j.first j.left in
        (g.0 ++ j.second, j.whole ∙ ap (λ z. z ++ j.second) g.1 ∙ append_assoc r.front g.0 j.second));
    retried = r.retried;
    why = why_first p r.why;
  }

  why_second : {own : Bool} {a b c : W} {o p : Option (List ℕ)} {f : List ℕ} {k : ErrorKind} (d : Written w a b o) → WriteFailure own w b c p f k → WriteFailure own w a c (append_encodings o p) (d.bytes ++ f) k
  why_second {o = o} {p = p} d (no_encoding r e n) = no_encoding r (e ∙ d.writes.faults) (joined_none o p (inr n))
  why_second d (no_memory r e x) = no_memory r (e ∙ d.writes.faults) x
  why_second {o = o} {p = p} {f = f} d (full r e h l) =
      full r (e ∙ d.writes.faults) h (λ bytes i. (let j = joined_some o p bytes i in
      let same : d.bytes ≡ j.first = some_same d.bytes j.first (sym d.is ∙ j.left) in
      omega (arith, l j.second j.right, ap length j.whole, ap length same, length-append j.first j.second, length-append d.bytes f)))
  why_second d (writer_failed r) = writer_failed (Rose-after d.writes.faults r)

  pub write_denied_second : {own : Bool} {a b c : W} {o p : Option (List ℕ)} {k : ErrorKind} → Written w a b o → NotWritten own w b c p k → NotWritten own w a c (append_encodings o p) k
  write_denied_second {a = a} {c = c} {o = o} {p = p} d r = record {
    front = d.bytes ++ r.front;
    wrote = laws.more _ _ _ _ _ d.writes.wrote r.wrote;
    interruptions = omega (arith, d.writes.interruptions, r.interruptions);
    begins = λ bytes e. (let j = joined_some o p bytes e in let g = r.begins j.second j.right in
        let same : d.bytes ≡ j.first = some_same d.bytes j.first (sym d.is ∙ j.left) in
        (g.0, j.whole ∙ ap (λ z. j.first ++ z) g.1 ∙ sym (append_assoc j.first r.front g.0) ∙ ap (λ z. (z ++ r.front) ++ g.0) (sym same)));
    retried = r.retried;
    why = why_second d r.why;
  }

-- ---- parts in a loop

-- of the encoding `whole` the part `left` is still to be written, and all before it was
pub record WritesSoFar {W : Type 0} (w : WriterModel W) (old now : W) (whole left : Option (List ℕ)) : Type 0 where
  pub part : Option (List ℕ)
  pub written : Written w old now part
  pub split : whole ≡ append_encodings part left

module _ {W : Type 0} {w : WriterModel W} (laws : WriterLaws W w) where
  pub so_far_none : (a : W) (o : Option (List ℕ)) → WritesSoFar w a a o o
  so_far_none a o = record { part = Some []; written = writes_nothing laws a; split = sym (joined_nil o) }

  -- a part of what is left was written
  pub so_far_more : {a b c : W} {whole left part more : Option (List ℕ)} → WritesSoFar w a b whole left → left ≡ append_encodings part more → Written w b c part → WritesSoFar w a c whole more
  so_far_more {part = part} {more = more} p e q = record {
    part = append_encodings p.part part;
    written = writes_both laws p.written q;
    split = p.split ∙ ap (append_encodings p.part) e ∙ sym (joined_assoc p.part part more);
  }

  -- all that is left was written
  pub so_far_all : {a b c : W} {whole left : Option (List ℕ)} → WritesSoFar w a b whole left → Written w b c left → Written w a c whole
  so_far_all p q = writes_as (sym p.split) (writes_both laws p.written q)

  -- nothing is left
  pub so_far_done : {a b : W} {whole left : Option (List ℕ)} → WritesSoFar w a b whole left → left ≡ Some [] → Written w a b whole
  so_far_done {b = b} p e = so_far_all p (writes_as (sym e) (writes_nothing laws b))

  -- what is left was refused
  pub so_far_denied : {own : Bool} {a b c : W} {whole left : Option (List ℕ)} {k : ErrorKind} → WritesSoFar w a b whole left → NotWritten own w b c left k → NotWritten own w a c whole k
  so_far_denied p r = write_denied_as (sym p.split) (write_denied_second laws p.written r)
