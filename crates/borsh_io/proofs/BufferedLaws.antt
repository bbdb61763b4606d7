-- What a read behind the bytes that are held does.
use Rattle.std.proofs.Common.{◌≡◌, ℕ, zero, suc, ◌+◌, ◌*◌, ◌<◌, ◌≤◌, List, [], ◌++◌, length, take, drop, Result, Ok, Err, inl, inr, refl, sym, ◌∙◌, ap, subst, arith, le_refl, append-nil, append_assoc, length-take-le}
use Rattle.std.specs.Prelude.{Option, OnOk, IfOk, IfErr}
use Rattle.std.specs.Io.KnownBytes.{Consumes, Keeps, IsAtEnd}
use Rattle.std.proofs.KnownBytes.{Consumes-nil, Consumes-kept}
use Rattle.std.proofs.lemmas.List.{take-append-le, take-take, take_all}
use Rattle.std.proofs.Math.Seq.{take-append_seam, take-append-add}
use Rattle.borsh_io.specs.declared.buffered.Buffered.{Buffered}
use Rattle.borsh_io.specs.declared.error.Error.{Error}
use Rattle.borsh_io.specs.declared.error.ErrorKind.{ErrorKind}
use Rattle.borsh_io.specs.declared.error.ErrorKind.TheVariants.{OutOfMemory}
use Rattle.borsh_io.specs.Errors.{error_kind}
use Rattle.borsh_io.specs.Stream.{ReaderState, Consumed, ReadFailedAfterRetries}
use Rattle.borsh_io.specs.Buffered.{IsUnread, Lost, ReadsMore, held, reader_of}

-- what lies behind the bytes that were held, where n bytes of a buffer behind them were read, and no others are kept
pub written : (m h n L : ℕ) (old Y Z buf P rest new zeros : List ℕ) → h ≡ length old → Z ≡ take (h + m) old ++ zeros → Y ≡ Z → n ≤ length buf → h + n ≤ L
    → new ≡ take (h + n) (take L ((take h Y ++ (buf ++ P)) ++ rest)) → new ≡ old ++ take n buf
written m h n L old Y Z buf P rest new zeros e f g bound low is =
    let whole : take (h + m) old ≡ old = take_all (h + m) old (omega (arith, e)) in
    let front : take h Y ≡ old = ap (take h) (g ∙ f ∙ ap (λ l. l ++ zeros) whole) ∙ ap (λ i. take i (old ++ zeros)) e ∙ take-append_seam old zeros in
    let X = (take h Y ++ (buf ++ P)) ++ rest in
    let joined : X ≡ old ++ (buf ++ (P ++ rest)) = ap (λ l. (l ++ (buf ++ P)) ++ rest) front ∙ append_assoc old (buf ++ P) rest ∙ ap (λ l. old ++ l) (append_assoc buf P rest) in
    is ∙ take-take (h + n) L X low ∙ ap (take (h + n)) joined ∙ ap (λ i. take (i + n) (old ++ (buf ++ (P ++ rest)))) e
    ∙ take-append-add old (buf ++ (P ++ rest)) n ∙ ap (λ l. old ++ l) (take-append-le n buf (P ++ rest) bound)

-- the same where none were read
pub unwritten : (m h L : ℕ) (old Y Z buf P rest new zeros : List ℕ) → h ≡ length old → Z ≡ take (h + m) old ++ zeros → Y ≡ Z → h ≤ L
    → new ≡ take h (take L ((take h Y ++ (buf ++ P)) ++ rest)) → new ≡ old
unwritten m h L old Y Z buf P rest new zeros e f g low is =
    let zero : h ≡ h + 0 = omega arith in
    written m h 0 L old Y Z buf P rest new zeros e f g (omega arith) (omega (arith, low)) (is ∙ ap (λ i. take i (take L ((take h Y ++ (buf ++ P)) ++ rest))) zero) ∙ append-nil old

-- bytes from an end of 0 on are all
pub from_zero : (end : ℕ) (old new added : List ℕ) → end ≡ 0 → new ≡ old ++ added → drop end new ≡ drop end old ++ added
from_zero end old new added z e = ap (λ i. drop i new) z ∙ e ∙ ap (λ l. l ++ added) (sym (ap (λ i. drop i old) z))

bounded-read : (n a b : ℕ) → n ≤ 65536 → a ≤ b → (0 < n → a < b) → n + 65536 * a ≤ 65536 * b
bounded-read zero a b h l f = omega (arith, l)
bounded-read (suc n) a b h l f = let g = f (omega arith) in omega (arith, h, g)

module _ {R : Type 0} (state : R → ReaderState) (old new : Buffered R) where
  pub more-read : (n : ℕ) (buf : List ℕ) → held new ≡ held old ++ take n buf → n ≤ length buf → 0 < length buf → length buf ≤ 65536
      → Consumed (state (reader_of old)) (state (reader_of new)) (take n buf)
      → (0 < n → (state (reader_of new)).reads_left < (state (reader_of old)).reads_left)
      → (n ≡ 0 → 0 < length buf → IsAtEnd (state (reader_of new)).bytes) → ReadsMore state old new (Ok n)
  more-read n buf e bound some most c fewer end = record {
    read = take n buf;
    held = e;
    lost = record {
      bounded = subst (λ k. k + 65536 * (state (reader_of new)).reads_left ≤ 65536 * (state (reader_of old)).reads_left) (sym (length-take-le n buf bound)) (bounded-read n _ _ (omega (arith, bound, most)) c.reads_left fewer);
      bytes = c.bytes;
      interruptions = c.interruptions;
      reads_left = c.reads_left;
      strict_order = c.strict_order;
    };
    number = sym (length-take-le n buf bound);
    faults = c.faults;
    fewer = fewer;
    some = λ z. end z some;
    failed = tt;
  }

  pub none-read : (e : Error) → held new ≡ held old → reader_of new ≡ reader_of old → error_kind e ≡ OutOfMemory → ReadsMore state old new (Err e)
  none-read e h s k =
      let same : state (reader_of new) ≡ state (reader_of old) = ap state s in
      record {
        read = [];
        held = h ∙ sym (append-nil (held old));
        lost = subst (λ t. Lost (state (reader_of old)) t []) (sym same) (record { bounded = omega arith; bytes = Consumes-nil _; interruptions = le_refl _; reads_left = le_refl _; strict_order = refl });
        number = tt;
        faults = tt;
        fewer = tt;
        some = tt;
        failed = inl (k, ap (λ t. t.faults) same);
      }

  pub read-failed : {k : ErrorKind} (e : Error) → held new ≡ held old → ReadFailedAfterRetries (state (reader_of old)) (state (reader_of new)) k → ReadsMore state old new (Err e)
  read-failed e h f = record {
    read = [];
    held = h ∙ sym (append-nil (held old));
    lost = record { bounded = (let a = f.reads_left in omega (arith, a)); bytes = kept _ _ f.bytes; interruptions = f.interruptions; reads_left = f.reads_left; strict_order = f.strict_order };
    number = tt;
    faults = tt;
    fewer = tt;
    some = tt;
    failed = inr f.faults;
  }
    where
      kept : (a b : Option (List ℕ)) → Keeps a b → Consumes a b []
      kept a b k = Consumes-kept a a b [] (Consumes-nil a) k

  -- the bytes that were taken are let go first
  pub read-behind : (mid : Buffered R) (r : Result ℕ Error) → held mid ≡ held old → reader_of mid ≡ reader_of old → ReadsMore state mid new r → ReadsMore state old new r
  read-behind mid r h s m =
      let same : state (reader_of mid) ≡ state (reader_of old) = ap state s in
      record {
        read = m.read;
        held = m.held ∙ ap (λ l. l ++ m.read) h;
        lost = subst (λ t. Lost t (state (reader_of new)) m.read) same m.lost;
        number = m.number;
        faults = subst (λ t. OnOk r ((state (reader_of new)).faults ≡ t.faults)) same m.faults;
        fewer = subst (λ t. IfOk r (λ n. 0 < n → (state (reader_of new)).reads_left < t.reads_left)) same m.fewer;
        some = m.some;
        failed = subst (λ t. IfErr r (λ e. IsUnread t (state (reader_of new)) e)) same m.failed;
      }
