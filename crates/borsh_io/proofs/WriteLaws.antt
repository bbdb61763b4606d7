-- How writes follow one another.
use Rattle.std.proofs.Common.{Result, Ok, Err, IfErr, IsOk, true, false, length-drop, ◌≡◌, ℕ, ◌+◌, ◌-◌, ◌<◌, ◌≤◌, inl, inr, IsTrue, List, [], ◌++◌, length, take, drop, refl, sym, ap, ◌∙◌, subst, arith, le_refl, append_assoc, append-nil, length-append, take-append-drop}
use Rattle.std.proofs.lemmas.List.{take_rest}
use Rattle.std.proofs.lemmas.Bool.{eqb-true}
use Rattle.borsh_io.specs.declared.error.ErrorKind.{ErrorKind}
use Rattle.borsh_io.specs.declared.error.ErrorKind.TheVariants.{WriteZero}
use Rattle.borsh_io.specs.Stream.{CountedUp}
use Rattle.borsh_io.specs.Sink.{WriterModel, WriterLaws, WroteBytes, WriteInterrupted, WriteFailed, WriteFailedAfterRetries, WriteFault, NotWrittenWhole, overwriting}
use Rattle.borsh_io.specs.declared.error.Error.{Error}
use Rattle.borsh_io.specs.Errors.{error_kind}

pub Rose-after : {a b c : ℕ} → b ≡ a → CountedUp b c → CountedUp a c
Rose-after {c = c} e r = subst (λ n. CountedUp n c) e r

module _ {W : Type 0} {w : WriterModel W} (laws : WriterLaws W w) where
  pub Writes-none : (a : W) → WroteBytes w a a []
  Writes-none a = record { wrote = laws.none a; faults = refl; interruptions = le_refl _ }

  pub Writes-trans : {a b c : W} {x y : List ℕ} → WroteBytes w a b x → WroteBytes w b c y → WroteBytes w a c (x ++ y)
  Writes-trans p q = record {
    wrote = laws.more _ _ _ _ _ p.wrote q.wrote;
    faults = q.faults ∙ p.faults;
    interruptions = omega (arith, p.interruptions, q.interruptions);
  }

  pub Writes-interrupted : {a b c : W} {x : List ℕ} → WroteBytes w a b x → WriteInterrupted w b c → WroteBytes w a c x
  Writes-interrupted {a} {b} {c} {x} p q = record {
    wrote = subst (w.wrote a c) (append-nil x) (laws.more _ _ _ _ _ p.wrote q.wrote);
    faults = q.faults ∙ p.faults;
    interruptions = omega (arith, p.interruptions, q.interruptions);
  }

  pub WriteFault-after : {a b c : W} {kind : ErrorKind} → (w.sink b).faults ≡ (w.sink a).faults → WriteFault w b c kind → WriteFault w a c kind
  WriteFault-after e (inl p) = inl (p.0, p.1, p.2 ∙ e)
  WriteFault-after e (inr r) = inr (Rose-after e r)

  -- after interruptions, a write failed
  pub GaveUp-after : {a b c : W} {kind : ErrorKind} → WroteBytes w a b [] → WriteFailed w b c kind → WriteFailedAfterRetries w a c kind
  GaveUp-after {a} {b} {c} p q = record {
    wrote = laws.more _ _ _ _ _ p.wrote q.wrote;
    interruptions = omega (arith, p.interruptions, q.interruptions);
    cause = WriteFault-after p.faults q.cause;
  }

  -- after some bytes, a write failed
  pub Refused-failed : {a b c : W} {all front : List ℕ} (rest : List ℕ) {kind : ErrorKind} → WroteBytes w a b front → all ≡ front ++ rest → 0 < length rest → WriteFailed w b c kind → NotWrittenWhole w a c all kind
  Refused-failed {a} {b} {c} {all} {front} rest p split left q = record {
    front = front;
    rest = rest;
    split = split;
    left = left;
    wrote = subst (w.wrote a c) (append-nil front) (laws.more _ _ _ _ _ p.wrote q.wrote);
    interruptions = omega (arith, p.interruptions, q.interruptions);
    cause = inr (WriteFault-after p.faults q.cause);
  }

  -- after some bytes, the writer took nothing
  pub Refused-full : {a b c : W} {all front : List ℕ} (rest : List ℕ) {kind : ErrorKind} (n : ℕ) → WroteBytes w a b front → all ≡ front ++ rest → 0 < length rest → n ≡ 0 → WroteBytes w b c (take n rest) → IsTrue (w.sink c).full → kind ≡ WriteZero → NotWrittenWhole w a c all kind
  Refused-full {a} {b} {c} {all} {front} rest n p split left is_none q full is_zero =
      let none : WroteBytes w b c [] = subst (λ k. WroteBytes w b c (take k rest)) is_none q in
      record {
        front = front;
        rest = rest;
        split = split;
        left = left;
        wrote = subst (w.wrote a c) (append-nil front) (laws.more _ _ _ _ _ p.wrote none.wrote);
        interruptions = omega (arith, p.interruptions, none.interruptions);
        cause = inl (is_zero, full, none.faults ∙ p.faults);
      }

  -- the first part was written, and the second one was refused
  pub Refused-after : {a b c : W} {x y : List ℕ} {kind : ErrorKind} → WroteBytes w a b x → NotWrittenWhole w b c y kind → NotWrittenWhole w a c (x ++ y) kind
  Refused-after {a} {b} {c} {x} {y} p q = record {
    front = x ++ q.front;
    rest = q.rest;
    split = ap (λ l. x ++ l) q.split ∙ sym (append_assoc x q.front q.rest);
    left = q.left;
    wrote = laws.more _ _ _ _ _ p.wrote q.wrote;
    interruptions = omega (arith, p.interruptions, q.interruptions);
    cause = elim q.cause [ inl z ↦ inl (z.0, z.1, z.2 ∙ p.faults) | inr f ↦ inr (WriteFault-after p.faults f) ];
  }

  -- the first part was refused already
  pub Refused-before : {a b : W} {x : List ℕ} (y : List ℕ) {kind : ErrorKind} → NotWrittenWhole w a b x kind → NotWrittenWhole w a b (x ++ y) kind
  Refused-before {x = x} y q = record {
    front = q.front;
    rest = q.rest ++ y;
    split = ap (λ l. l ++ y) q.split ∙ append_assoc q.front q.rest y;
    left = omega (arith, q.left, length-append q.rest y);
    wrote = q.wrote;
    interruptions = q.interruptions;
    cause = q.cause;
  }

-- a slice with room takes all
pub slice-takes : {W T : Type 0} (room : W → List ℕ) (a b : W) (bytes : List ℕ) (r : Result T Error) → IfErr r (λ e. NotWrittenWhole (overwriting room) a b bytes (error_kind e)) → length bytes ≤ length (room a) → IsOk r
slice-takes room a b bytes (Ok x) p h = refl
slice-takes room a b bytes (Err e) p h = absurd (elim p.cause [
  | inl z ↦ (let empty : length (room b) ≡ 0 = eqb-true _ _ z.1 in
      let long : length bytes ≡ length p.front + length p.rest = ap length p.split ∙ length-append p.front p.rest in
      let gone : length (room b) ≡ length (room a) - length p.front = ap length p.wrote.1 ∙ length-drop (length p.front) (room a) in
      omega (arith, p.left))
  | inr f ↦ elim f [ inl m ↦ (let never : false ≡ true = m.1 in cc) | inr r ↦ (let one : 0 ≡ 0 + 1 = r.0 (omega arith) in omega arith) ]
])

-- a write of the first n bytes of what is left
pub moves_front : (all done rest : List ℕ) (n : ℕ) → all ≡ done ++ rest → all ≡ (done ++ take n rest) ++ take (length rest - n) (drop n rest)
moves_front all done rest n e =
    e ∙ ap (λ l. done ++ l) (sym (take-append-drop n rest)) ∙ sym (append_assoc done (take n rest) (drop n rest)) ∙ ap (λ l. (done ++ take n rest) ++ l) (sym (take_rest rest n))
