-- What a turn of a run adds, and where a run ends.
use Rattle.std.proofs.Common.{◌≡◌, ℕ, ◌<◌, inr, List, [], ◌∷◌, ◌++◌, length, Option, None, Some, Result, Ok, Err, OnOk, IfErr, IsOk, refl, sym, ap, ◌∙◌, subst, arith, le_refl, append_assoc, append-nil, true≢false}
use Rattle.std.specs.Io.KnownBytes.{IsAtEnd}
use Rattle.std.proofs.KnownBytes.{Consumes-nil, Consumes-kept}
use Rattle.borsh_io.specs.declared.error.Error.{Error}
use Rattle.borsh_io.specs.declared.error.ErrorKind.{ErrorKind}
use Rattle.borsh_io.specs.declared.error.ErrorKind.TheVariants.{OutOfMemory}
use Rattle.borsh.specs.Errors.{error_kind}
use Rattle.borsh.specs.Stream.{ReaderState, Consumed, ReadFailedAfterRetries}
use Rattle.borsh.specs.Sink.{WriterModel, WriterLaws, WroteBytes, WriteFailedAfterRetries, NotWrittenWhole}
use Rattle.borsh.proofs.ReadLaws.{Takes-none, Takes-trans}
use Rattle.borsh.proofs.WriteLaws.{Rose-after, Writes-none, Writes-trans, WriteFault-after, Refused-after}
use Rattle.borsh_walks.specs.Counts.{add_saturating}
use Rattle.borsh_check_lines.specs.Lines.{lines_of, OutputOf, Answered, Appends, AnswersChunk}
use Rattle.borsh_check_lines.specs.Runs.{known_bytes, RunsCounted}
use Rattle.borsh_check_lines.specs.Runs.WhyStopped.{no_memory, reader_failed, writer_stopped}
use Rattle.borsh_check_lines.proofs.LineSteps.{answered-none, output-none, output-push, appends-after, output-at_end, output-at_last, ended-are, first-lines, raised-on, raised-once}

pub known-at_end : (bytes : Option (List ℕ)) → IsAtEnd bytes → known_bytes bytes ≡ []
known-at_end None h = refl
known-at_end (Some xs) h = h

-- what was answered and written of the bytes that were taken: the lines that end in `done`, whose last part is `line`; nothing is answered of `rest`
pub record SoFar {W : Type 0} (answers : List ℕ → List ℕ → Type 0) (w : WriterModel W) (s t : ReaderState) (a b : W) (done : List ℕ) (lines : List (List ℕ)) (line out rest : List ℕ) (m n : ℕ) : Type 0 where
  pub takes : Consumed s t (done ++ rest)
  pub writes : WroteBytes w a b out
  pub answered : Answered answers done lines line out
  pub counted : n ≡ add_saturating m (length lines)

module _ {W : Type 0} {answers : List ℕ → List ℕ → Type 0} {w : WriterModel W} (laws : WriterLaws W w) where
  pub starts : (s : ReaderState) (a : W) (m : ℕ) → SoFar answers w s s a a [] [] [] [] [] m m
  starts s a m = record { takes = Takes-none s; writes = Writes-none laws a; answered = answered-none; counted = refl }

  -- more was taken
  pub takes-more : {s t u : ReaderState} {a b : W} {done line out : List ℕ} {lines : List (List ℕ)} {m n : ℕ} (extra : List ℕ) → SoFar answers w s t a b done lines line out [] m n → Consumed t u extra → SoFar answers w s u a b done lines line out extra m n
  takes-more {s} {t} {u} {done = done} extra p x = record {
    takes = subst (λ l. Consumed s u (l ++ extra)) (append-nil done) (Takes-trans p.takes x);
    writes = p.writes;
    answered = p.answered;
    counted = p.counted;
  }

  -- a chunk was taken, and the answers to the lines that end in it were written
  pub goes_on : {E : Type 0} {s t u : ReaderState} {a b d : W} {done line out extra after added : List ℕ} {lines : List (List ℕ)} {m n k : ℕ} {r : Result (Unit {0}) E} → SoFar answers w s t a b done lines line out [] m n → Consumed t u extra → (x : AnswersChunk answers extra line after [] added n k r) → WroteBytes w b d added → SoFar answers w s u a d (done ++ x.front) (lines ++ x.lines) after (out ++ added) x.rest m k
  goes_on {s = s} {u = u} {done = done} {out = out} {extra = extra} {after = after} {lines = lines} p y x z =
      let all = takes-more extra p y in
      record {
        takes = subst (Consumed s u) (ap (λ l. done ++ l) x.split ∙ sym (append_assoc done x.front x.rest)) all.takes;
        writes = Writes-trans laws p.writes z;
        answered = subst (λ l. Answered answers (done ++ x.front) (lines ++ x.lines) after (out ++ l)) (sym x.appended) (x.continues.go done lines out p.answered);
        counted = raised-on _ _ _ lines x.lines p.counted x.counted;
      }

  -- nothing of the chunk is left
  pub goes_on-whole : {s t : ReaderState} {a b : W} {done line out rest : List ℕ} {lines : List (List ℕ)} {m n : ℕ} → rest ≡ [] → SoFar answers w s t a b done lines line out rest m n → SoFar answers w s t a b done lines line out [] m n
  goes_on-whole {s} {t} {a} {b} {done} {line} {out} {rest} {lines} {m} {n} e p = subst (λ l. SoFar answers w s t a b done lines line out l m n) e p

  -- ---- an allocation failed, or the reader failed

  pub stops-first : (s : ReaderState) (a : W) (m : ℕ) {e : Error} → error_kind e ≡ OutOfMemory → RunsCounted answers w s s a a m m (Err e)
  stops-first s a m h = record {
    runs = record {
      taken = [];
      bytes = Consumes-nil s.bytes;
      interruptions = le_refl _;
      reads_left = le_refl _;
      strict_order = refl;
      answered = [];
      unanswered = lines_of (known_bytes s.bytes);
      first = refl;
      written = [];
      unwritten = [];
      output = output-none;
      wrote = laws.none a;
      writer_interruptions = le_refl _;
      ran = tt;
      stopped = no_memory h refl refl refl;
    };
    counted = refl;
  }

  pub stops-memory : {s t : ReaderState} {a b : W} {done line out rest : List ℕ} {lines : List (List ℕ)} {m n : ℕ} {e : Error} → SoFar answers w s t a b done lines line out rest m n → error_kind e ≡ OutOfMemory → RunsCounted answers w s t a b m n (Err e)
  stops-memory {s} {t} {a} {b} {done} {line} {out} {rest} {lines} p h = record {
    runs = record {
      taken = done ++ rest;
      bytes = p.takes.bytes;
      interruptions = p.takes.interruptions;
      reads_left = p.takes.reads_left;
      strict_order = p.takes.strict_order;
      answered = lines;
      unanswered = lines_of (line ++ (rest ++ known_bytes t.bytes));
      first = ap lines_of (append_assoc done rest (known_bytes t.bytes)) ∙ first-lines (rest ++ known_bytes t.bytes) p.answered;
      written = out;
      unwritten = [];
      output = subst (OutputOf answers lines) (sym (append-nil out)) p.answered.output;
      wrote = p.writes.wrote;
      writer_interruptions = p.writes.interruptions;
      ran = tt;
      stopped = no_memory h p.takes.faults p.writes.faults refl;
    };
    counted = p.counted;
  }

  pub stops-reader : {s t u : ReaderState} {a b : W} {done line out : List ℕ} {lines : List (List ℕ)} {m n : ℕ} {k : ErrorKind} {e : Error} → SoFar answers w s t a b done lines line out [] m n → ReadFailedAfterRetries t u k → RunsCounted answers w s u a b m n (Err e)
  stops-reader {s} {t} {u} {a} {b} {done} {line} {out} {lines} p f =
      let all : Consumed s t done = subst (Consumed s t) (append-nil done) p.takes in
      record {
        runs = record {
          taken = done;
          bytes = Consumes-kept _ _ _ _ all.bytes f.bytes;
          interruptions = omega (arith, all.interruptions, f.interruptions);
          reads_left = omega (arith, all.reads_left, f.reads_left);
          strict_order = f.strict_order ∙ all.strict_order;
          answered = lines;
          unanswered = lines_of (line ++ known_bytes u.bytes);
          first = first-lines (known_bytes u.bytes) p.answered;
          written = out;
          unwritten = [];
          output = subst (OutputOf answers lines) (sym (append-nil out)) p.answered.output;
          wrote = p.writes.wrote;
          writer_interruptions = p.writes.interruptions;
          ran = tt;
          stopped = reader_failed (Rose-after all.faults f.faults) p.writes.faults (sym (ended-are p.answered)) refl;
        };
        counted = p.counted;
      }

  -- ---- not all of the answers were written

  pub stops-writer : {E : Type 0} {s t u : ReaderState} {a b d : W} {done line out extra after added : List ℕ} {lines : List (List ℕ)} {m n k : ℕ} {r : Result (Unit {0}) E} {e : Error} → SoFar answers w s t a b done lines line out [] m n → Consumed t u extra → AnswersChunk answers extra line after [] added n k r → NotWrittenWhole w b d added (error_kind e) → RunsCounted answers w s u a d m k (Err e)
  stops-writer {s = s} {u = u} {a = a} {d = d} {done = done} {out = out} {extra = extra} {after = after} {added = added} {lines = lines} {e = e} p y x f =
      let all = takes-more extra p y in
      let r : NotWrittenWhole w a d (out ++ added) (error_kind e) = Refused-after laws p.writes f in
      let q : Answered answers (done ++ x.front) (lines ++ x.lines) after (out ++ added) = subst (λ l. Answered answers (done ++ x.front) (lines ++ x.lines) after (out ++ l)) (sym x.appended) (x.continues.go done lines out p.answered) in
      record {
        runs = record {
          taken = done ++ extra;
          bytes = all.takes.bytes;
          interruptions = all.takes.interruptions;
          reads_left = all.takes.reads_left;
          strict_order = all.takes.strict_order;
          answered = lines ++ x.lines;
          unanswered = lines_of (after ++ (x.rest ++ known_bytes u.bytes));
          first =
              ap (λ l. lines_of ((done ++ l) ++ known_bytes u.bytes)) x.split
              ∙ ap (λ l. lines_of (l ++ known_bytes u.bytes)) (sym (append_assoc done x.front x.rest))
              ∙ ap lines_of (append_assoc (done ++ x.front) x.rest (known_bytes u.bytes))
              ∙ first-lines (x.rest ++ known_bytes u.bytes) q;
          written = r.front;
          unwritten = r.rest;
          output = subst (OutputOf answers (lines ++ x.lines)) r.split q.output;
          wrote = r.wrote;
          writer_interruptions = r.interruptions;
          ran = tt;
          stopped = writer_stopped all.takes.faults r.cause;
        };
        counted = raised-on _ _ _ lines x.lines p.counted x.counted;
      }

  -- ---- the end of the bytes

  pub ran-at_end : {s t u : ReaderState} {a b : W} {done out extra : List ℕ} {lines : List (List ℕ)} {m n : ℕ} (line : List ℕ) → SoFar answers w s t a b done lines line out [] m n → Consumed t u extra → extra ≡ [] → IsAtEnd u.bytes → length line ≡ 0 → RunsCounted answers w s u a b m n (Ok tt)
  ran-at_end {s} {t} {u} {a} {b} {done} {out} {extra} {lines} [] p x none end e =
      let all : Consumed s u done = subst (Consumed s u) (ap (λ l. done ++ l) none ∙ append-nil done) (takes-more extra p x).takes in
      record {
        runs = record {
          taken = done;
          bytes = all.bytes;
          interruptions = all.interruptions;
          reads_left = all.reads_left;
          strict_order = all.strict_order;
          answered = lines;
          unanswered = [];
          first = ap (λ l. lines_of (done ++ l)) (known-at_end u.bytes end) ∙ ap lines_of (append-nil done) ∙ output-at_end p.answered ∙ sym (append-nil lines);
          written = out;
          unwritten = [];
          output = subst (OutputOf answers lines) (sym (append-nil out)) p.answered.output;
          wrote = p.writes.wrote;
          writer_interruptions = p.writes.interruptions;
          ran = record { at_end = end; faults = all.faults; writer_faults = p.writes.faults; all_answered = refl; all_written = refl };
          stopped = tt;
        };
        counted = p.counted;
      }
  ran-at_end (d ∷ line) p x none end e = absurd (omega arith)

  -- all lines are answered, and the last answers are written or refused
  pub ends : {s u : ReaderState} {a b d : W} {taken out : List ℕ} {lines : List (List ℕ)} {m k : ℕ} (added : List ℕ) (r : Result (Unit {0}) Error) → Consumed s u taken → IsAtEnd u.bytes → lines_of taken ≡ lines → OutputOf answers lines (out ++ added) → k ≡ add_saturating m (length lines) → WroteBytes w a b out → OnOk r (WroteBytes w b d added) → IfErr r (λ e. NotWrittenWhole w b d added (error_kind e)) → RunsCounted answers w s u a d m k r
  ends {s} {u} {a} {b} {d} {taken} {out} {lines} added (Ok v) all end are output counted before ok err =
      let z : WroteBytes w a d (out ++ added) = Writes-trans laws before ok in
      record {
        runs = record {
          taken = taken;
          bytes = all.bytes;
          interruptions = all.interruptions;
          reads_left = all.reads_left;
          strict_order = all.strict_order;
          answered = lines;
          unanswered = [];
          first = ap (λ l. lines_of (taken ++ l)) (known-at_end u.bytes end) ∙ ap lines_of (append-nil taken) ∙ are ∙ sym (append-nil lines);
          written = out ++ added;
          unwritten = [];
          output = subst (OutputOf answers lines) (sym (append-nil (out ++ added))) output;
          wrote = z.wrote;
          writer_interruptions = z.interruptions;
          ran = record { at_end = end; faults = all.faults; writer_faults = z.faults; all_answered = refl; all_written = refl };
          stopped = tt;
        };
        counted = counted;
      }
  ends {s} {u} {a} {b} {d} {taken} {out} {lines} added (Err e) all end are output counted before ok err =
      let z : NotWrittenWhole w a d (out ++ added) (error_kind e) = Refused-after laws before err in
      record {
        runs = record {
          taken = taken;
          bytes = all.bytes;
          interruptions = all.interruptions;
          reads_left = all.reads_left;
          strict_order = all.strict_order;
          answered = lines;
          unanswered = [];
          first = ap (λ l. lines_of (taken ++ l)) (known-at_end u.bytes end) ∙ ap lines_of (append-nil taken) ∙ are ∙ sym (append-nil lines);
          written = z.front;
          unwritten = z.rest;
          output = subst (OutputOf answers lines) z.split output;
          wrote = z.wrote;
          writer_interruptions = z.interruptions;
          ran = tt;
          stopped = writer_stopped all.faults z.cause;
        };
        counted = counted;
      }

  -- a last line without a line feed was answered
  pub ends-at_last : {s t u : ReaderState} {a b d : W} {done line out extra added : List ℕ} {lines : List (List ℕ)} {m n k : ℕ} (r : Result (Unit {0}) Error) → SoFar answers w s t a b done lines line out [] m n → Consumed t u extra → extra ≡ [] → IsAtEnd u.bytes → 0 < length line → Appends answers line [] added → k ≡ add_saturating n 1 → OnOk r (WroteBytes w b d added) → IfErr r (λ e. NotWrittenWhole w b d added (error_kind e)) → RunsCounted answers w s u a d m k r
  ends-at_last {s} {t} {u} {a} {b} {d} {done} {line} {out} {extra} {added} {lines} r p x none end left y c ok err =
      let all : Consumed s u done = subst (Consumed s u) (ap (λ l. done ++ l) none ∙ append-nil done) (takes-more extra p x).takes in
      let whole : Appends answers line out (out ++ added) = subst (λ l. Appends answers line l (out ++ added)) (append-nil out) (appends-after out y) in
      ends added r all end (output-at_last line p.answered left) (output-push p.answered.output whole) (raised-once _ _ _ lines line p.counted c) p.writes ok err

  pub flushed : {s t : ReaderState} {a b d : W} {m n : ℕ} (before r : Result (Unit {0}) Error) → IsOk before → RunsCounted answers w s t a b m n before → OnOk r (WroteBytes w b d []) → IfErr r (λ e. WriteFailedAfterRetries w b d (error_kind e)) → RunsCounted answers w s t a d m n r
  flushed (Err f) r is p ok err = absurd (true≢false (sym is))
  flushed {s} {t} {a} {b} {d} {m} {n} (Ok u) (Ok v) is p ok err = record {
    runs = record {
      taken = p.runs.taken;
      bytes = p.runs.bytes;
      interruptions = p.runs.interruptions;
      reads_left = p.runs.reads_left;
      strict_order = p.runs.strict_order;
      answered = p.runs.answered;
      unanswered = p.runs.unanswered;
      first = p.runs.first;
      written = p.runs.written;
      unwritten = p.runs.unwritten;
      output = p.runs.output;
      wrote = subst (w.wrote a d) (append-nil p.runs.written) (laws.more _ _ _ _ _ p.runs.wrote ok.wrote);
      writer_interruptions = omega (arith, p.runs.writer_interruptions, ok.interruptions);
      ran = record { at_end = p.runs.ran.at_end; faults = p.runs.ran.faults; writer_faults = ok.faults ∙ p.runs.ran.writer_faults; all_answered = p.runs.ran.all_answered; all_written = p.runs.ran.all_written };
      stopped = tt;
    };
    counted = p.counted;
  }
  flushed {s} {t} {a} {b} {d} {m} {n} (Ok u) (Err e) is p ok err = record {
    runs = record {
      taken = p.runs.taken;
      bytes = p.runs.bytes;
      interruptions = p.runs.interruptions;
      reads_left = p.runs.reads_left;
      strict_order = p.runs.strict_order;
      answered = p.runs.answered;
      unanswered = p.runs.unanswered;
      first = p.runs.first;
      written = p.runs.written;
      unwritten = p.runs.unwritten;
      output = p.runs.output;
      wrote = subst (w.wrote a d) (append-nil p.runs.written) (laws.more _ _ _ _ _ p.runs.wrote err.wrote);
      writer_interruptions = omega (arith, p.runs.writer_interruptions, err.interruptions);
      ran = tt;
      stopped = writer_stopped p.runs.ran.faults (inr (WriteFault-after laws p.runs.ran.writer_faults err.cause));
    };
    counted = p.counted;
  }
