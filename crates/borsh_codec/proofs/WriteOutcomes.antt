-- Outcomes of writes that follow one another, over the whole answer of a call.
use Rattle.std.proofs.Common.{◌≡◌, ◌∙◌, ℕ, Bool, true, false, List, length, Option, None, Result, Ok, Err, true≢false, refl, sym, ap, subst, ◌||◌}
use Rattle.std.specs.Result.{IsErrAnd}
use Rattle.std.proofs.lemmas.Result.{err_from_is_err_and, on_ok_weaker, IfErr-weaker}
use Rattle.borsh_io.specs.declared.error.Error.{Error}
use Rattle.borsh_io.specs.declared.error.ErrorKind.TheVariants.{InvalidData, OutOfMemory}
use Rattle.borsh_io.specs.Errors.{error_kind}
use Rattle.borsh_io.specs.Sink.{WriterModel, WriterLaws}
use Rattle.borsh_codec.specs.Codec.{Codec}
use Rattle.borsh_codec.specs.Shapes.{unsigned_encoding, append_encodings, concat_encodings, refused_if, length_prefixed}
use Rattle.borsh_codec.specs.Writing.{Written, NotWritten, WritesEncoding, Writes}
use Rattle.borsh_codec.proofs.Laws.Exact.{refused_is, allowed_is}
use Rattle.borsh_codec.proofs.Laws.Lists.{or_left, or_right}
use Rattle.borsh_codec.proofs.WriteSteps.{WritesSoFar, so_far_all, so_far_denied, writes_both, write_denied_as, write_denied_own, write_denied_none, write_denied_memory, write_denied_first, write_denied_second}

-- at the exit of a `?`: the answer is the error
pub writes_exit : {W : Type 0} {w : WriterModel W} {a b : W} {i x : Bool} {o : Option (List ℕ)} (e : Error) {r : Result (Unit {0}) Error} → IsErrAnd r (λ y. y ≡ e) → WritesEncoding w a b i x o (Err e) → WritesEncoding w a b i x o r
writes_exit {w = w} {a = a} {b = b} {i = i} {x = x} {o = o} e {r = r} is f =
    let p = err_from_is_err_and r is in
    subst (WritesEncoding w a b i x o) (sym (p.1 ∙ ap (λ y. Err y) p.2)) f

-- a type that doesn't refuse all values
pub writes_err : {W : Type 0} {w : WriterModel W} {a b : W} {i x : Bool} {o : Option (List ℕ)} {e : Error} → x ≡ false → NotWritten i w a b o (error_kind e) → WritesEncoding w a b i x o (Err e)
writes_err n f = record { ok = tt; err = f; untouched = λ h. absurd (true≢false (sym h ∙ n)) }

pub writes_ok : {W : Type 0} {w : WriterModel W} {a b : W} {i x : Bool} {o : Option (List ℕ)} → x ≡ false → Written w a b o → WritesEncoding w a b i x o (Ok tt)
writes_ok n d = record { ok = d; err = tt; untouched = λ h. absurd (true≢false (sym h ∙ n)) }

-- the same encoding, by another name
pub writes_is : {W : Type 0} {w : WriterModel W} {a b : W} {i x : Bool} {o p : Option (List ℕ)} {r : Result (Unit {0}) Error} → o ≡ p → WritesEncoding w a b i x o r → WritesEncoding w a b i x p r
writes_is {w = w} {a = a} {b = b} {i = i} {x = x} {r = r} e q = subst (λ s. WritesEncoding w a b i x s r) e q

-- more may allocate
pub writes_own : {W : Type 0} {w : WriterModel W} {a b : W} {i j x : Bool} {o : Option (List ℕ)} {r : Result (Unit {0}) Error} → (i ≡ true → j ≡ true) → WritesEncoding w a b i x o r → WritesEncoding w a b j x o r
writes_own {r = r} m q = record { ok = q.ok; err = IfErr-weaker r _ _ (λ e f. write_denied_own m f) q.err; untouched = q.untouched }

-- a part that refuses all values may be in a type that doesn't
pub writes_not_refused : {W : Type 0} {w : WriterModel W} {a b : W} {i x y : Bool} {o : Option (List ℕ)} {r : Result (Unit {0}) Error} → x ≡ false → WritesEncoding w a b i y o r → WritesEncoding w a b i x o r
writes_not_refused n q = record { ok = q.ok; err = q.err; untouched = λ h. absurd (true≢false (sym h ∙ n)) }

-- a value that isn't refused
pub writes_allowed : {W : Type 0} {w : WriterModel W} {a b : W} {i x y : Bool} {o p : Option (List ℕ)} {r : Result (Unit {0}) Error} → x ≡ false → o ≡ p → WritesEncoding w a b i y o r → WritesEncoding w a b i x p r
writes_allowed n e q = writes_is e (writes_not_refused n q)

-- a value of a type that might have refused all of its values
pub writes_allowed_if : {A W : Type 0} {w : WriterModel W} {a b : W} {r : Result (Unit {0}) Error} (refused : Bool) (c : Codec A) (v : A) → refused ≡ false → Writes c v w a b r → Writes (refused_if refused c) v w a b r
writes_allowed_if refused c v n q = writes_allowed n (sym (allowed_is refused n refl)) q

-- ---- two parts in order

-- the first part was not written
pub writes_exit_first : {W : Type 0} {w : WriterModel W} (laws : WriterLaws W w) {a b : W} {i x : Bool} (j : Bool) {o : Option (List ℕ)} (p : Option (List ℕ)) (e : Error) {r : Result (Unit {0}) Error} → IsErrAnd r (λ y. y ≡ e) → WritesEncoding w a b i x o (Err e) → WritesEncoding w a b (i || j) x (append_encodings o p) r
writes_exit_first laws {i = i} j p e is f = writes_exit e is (record { ok = tt; err = write_denied_own (or_left i j) (write_denied_first laws p f.err); untouched = f.untouched })

module _ {W : Type 0} {w : WriterModel W} (laws : WriterLaws W w) where
  -- the second part is tried after the first was written
  pub writes_then : {a b c : W} (i : Bool) {k j x y : Bool} {o p : Option (List ℕ)} {r : Result (Unit {0}) Error} → WritesEncoding w a b k x o (Ok tt) → WritesEncoding w b c j y p r → WritesEncoding w a c (i || j) x (append_encodings o p) r
  writes_then i {j = j} {r = r} d q = record {
    ok = on_ok_weaker r (writes_both laws d.ok) q.ok;
    err = IfErr-weaker r _ _ (λ e f. write_denied_own (or_right i j) (write_denied_second laws d.ok f)) q.err;
    untouched = λ h. absurd (d.untouched h).kind;
  }

  -- two parts of one kind
  pub writes_again_exit : {a b : W} {i x : Bool} {o : Option (List ℕ)} (p : Option (List ℕ)) (e : Error) {r : Result (Unit {0}) Error} → IsErrAnd r (λ y. y ≡ e) → WritesEncoding w a b i x o (Err e) → WritesEncoding w a b i x (append_encodings o p) r
  writes_again_exit p e is f = writes_exit e is (record { ok = tt; err = write_denied_first laws p f.err; untouched = f.untouched })

  pub writes_again : {a b c : W} {i x y : Bool} {o p : Option (List ℕ)} {r : Result (Unit {0}) Error} → WritesEncoding w a b i x o (Ok tt) → WritesEncoding w b c i y p r → WritesEncoding w a c i x (append_encodings o p) r
  writes_again {r = r} d q = record {
    ok = on_ok_weaker r (writes_both laws d.ok) q.ok;
    err = IfErr-weaker r _ _ (λ e f. write_denied_second laws d.ok f) q.err;
    untouched = λ h. absurd (d.untouched h).kind;
  }

  -- all values are refused
  pub writes_refused : (i x : Bool) (a : W) {o : Option (List ℕ)} {e : Error} → o ≡ None → error_kind e ≡ InvalidData → WritesEncoding w a a i x o (Err e)
  writes_refused i x a n k = record { ok = tt; err = write_denied_none laws i a n k; untouched = λ h. record { kind = k; still = refl } }

  -- an allocation failed before anything was written
  pub writes_memory : (a : W) (o : Option (List ℕ)) {x : Bool} {e : Error} → x ≡ false → error_kind e ≡ OutOfMemory → WritesEncoding w a a true x o (Err e)
  writes_memory a o n k = writes_err n (write_denied_memory laws a o refl k)

  -- ---- parts in a loop

  -- the next part was not written
  pub so_far_exit : {a b c : W} {whole left part : Option (List ℕ)} (rest : Option (List ℕ)) {i : Bool} (e : Error) {r : Result (Unit {0}) Error} → IsErrAnd r (λ y. y ≡ e) → WritesSoFar w a b whole left → left ≡ append_encodings part rest → NotWritten i w b c part (error_kind e) → WritesEncoding w a c i false whole r
  so_far_exit rest e is p n f = writes_exit e is (writes_err refl (so_far_denied laws p (write_denied_as (sym n) (write_denied_first laws rest f))))

  -- what is left is tried at once
  pub so_far_rest : {a b c : W} {whole left : Option (List ℕ)} {i x : Bool} {r : Result (Unit {0}) Error} → WritesSoFar w a b whole left → WritesEncoding w b c i x left r → WritesEncoding w a c i false whole r
  so_far_rest {r = r} p q = record {
    ok = on_ok_weaker r (so_far_all laws p) q.ok;
    err = IfErr-weaker r _ _ (λ e f. so_far_denied laws p f) q.err;
    untouched = λ h. absurd (true≢false (sym h));
  }

-- ---- a type that refuses all of its values

pub writes_refused_if : {A W : Type 0} {w : WriterModel W} (laws : WriterLaws W w) (refused : Bool) (c : Codec A) (v : A) (a : W) {e : Error} → refused ≡ true → error_kind e ≡ InvalidData → Writes (refused_if refused c) v w a a (Err e)
writes_refused_if laws refused c v a y k = writes_refused laws c.encoding_allocates refused a (refused_is refused (c.encoding v) y) k

-- ---- a count and elements

module _ {A W : Type 0} {w : WriterModel W} (laws : WriterLaws W w) (c : Codec A) (xs : List A) where
  -- the count was not written
  pub writes_count_exit : {a b : W} {n : ℕ} (e : Error) {r : Result (Unit {0}) Error} → n ≡ length xs → IsErrAnd r (λ y. y ≡ e) → WritesEncoding w a b false false (unsigned_encoding 4 n) (Err e) → Writes (length_prefixed c) xs w a b r
  writes_count_exit e n is f = writes_exit_first laws c.encoding_allocates (concat_encodings c.encoding xs) e is (writes_is (ap (unsigned_encoding 4) n) f)

  -- the elements are tried after the count was written
  pub writes_counted : {a b d : W} {n : ℕ} {y : Bool} {r : Result (Unit {0}) Error} → n ≡ length xs → WritesEncoding w a b false false (unsigned_encoding 4 n) (Ok tt) → WritesEncoding w b d c.encoding_allocates y (concat_encodings c.encoding xs) r → Writes (length_prefixed c) xs w a d r
  writes_counted n o q = writes_then laws false (writes_is (ap (unsigned_encoding 4) n) o) q
