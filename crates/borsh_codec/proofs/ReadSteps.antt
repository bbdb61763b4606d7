-- Reads that follow one another, and refusals behind them.
use Rattle.std.proofs.Common.{◌≡◌, ◌≢◌, ℕ, ◌+◌, ◌<◌, ◌≤◌, Bool, true, false, List, [], ◌∷◌, ◌++◌, length, Option, Some, None, IfSome, ◌⊎◌, refl, sym, ◌∙◌, ap, subst, inl, inr, append-nil, append_assoc, arith, le_refl, length-append}
use Rattle.std.specs.Bool.{⊤}
use Rattle.std.specs.Io.KnownBytes.{Consumes}
use Rattle.std.proofs.KnownBytes.{Consumes-trans}
use Rattle.std.proofs.lemmas.List.{append_cancel_right}
use Rattle.borsh_io.specs.declared.error.ErrorKind.{ErrorKind}
use Rattle.borsh_io.specs.declared.error.ErrorKind.TheVariants.{InvalidData, OutOfMemory, Interrupted, UnexpectedEof}
use Rattle.borsh_io.specs.Stream.{ReaderState, ConsumedSome, TookFewerThan, ReadExactFailure}
use Rattle.borsh_io.proofs.ReadLaws.{Takes-none, Takes-trans}
use Rattle.borsh_io.proofs.WriteLaws.{Rose-after}
use Rattle.borsh_codec.specs.Codec.{Codec, IsDecodable}
use Rattle.borsh_codec.specs.Shapes.{SplitsInto}
use Rattle.borsh_codec.proofs.Laws.Lists.{some_same}
use Rattle.borsh_codec.specs.Reading.{TakesPrefix, NoPrefix, NoneTaken, IsInvalidData, ReadFailure, ReadFails, Decoded, NotDecoded}
use Rattle.borsh_codec.specs.Reading.ReadFailure.{malformed, no_memory, reader_failed}

-- ---- what was taken

pub took_weaker : {P Q : List ℕ → Type 0} {s t : ReaderState} → ((x : List ℕ) → P x → Q x) → TakesPrefix P s t → TakesPrefix Q s t
took_weaker f r = record { front = r.front; takes = r.takes; holds = f r.front r.holds }

pub took_nothing : {P : List ℕ → Type 0} (s : ReaderState) → P [] → TakesPrefix P s s
took_nothing s p = record { front = []; takes = Takes-none s; holds = p }

pub took_then : {P Q : List ℕ → Type 0} {s t u : ReaderState} → TakesPrefix P s t → TakesPrefix Q t u → TakesPrefix (SplitsInto P Q) s u
took_then p q = record {
  front = p.front ++ q.front;
  takes = Takes-trans p.takes q.takes;
  holds = record { first = p.front; second = q.front; whole = refl; left = p.holds; right = q.holds };
}

pub tail_of : {P : List ℕ → Type 0} {s t : ReaderState} → TakesPrefix P s t → ConsumedSome s t
tail_of p = record { front = p.front; bytes = p.takes.bytes; interruptions = p.takes.interruptions; reads_left = p.takes.reads_left; strict_order = p.takes.strict_order }

pub tail_none : (s : ReaderState) → ConsumedSome s s
tail_none s = tail_of {P = λ _. ⊤} (took_nothing s tt)

pub tail_after : {P : List ℕ → Type 0} {s t u : ReaderState} → TakesPrefix P s t → ConsumedSome t u → ConsumedSome s u
tail_after p r = record {
  front = p.front ++ r.front;
  bytes = Consumes-trans _ _ _ _ _ p.takes.bytes r.bytes;
  interruptions = omega (arith, p.takes.interruptions, r.interruptions);
  reads_left = omega (arith, p.takes.reads_left, r.reads_left);
  strict_order = r.strict_order ∙ p.takes.strict_order;
}

-- what is left where the bytes are known
pub told_after : (o p : Option (List ℕ)) (xs f : List ℕ) → o ≡ Some xs → Consumes o p f → (ys : List ℕ) × (p ≡ Some ys) × (xs ≡ f ++ ys)
told_after None p xs f e c = absurd (cc)
told_after (Some zs) None xs f e c = absurd c
told_after (Some zs) (Some ys) xs f e c = (ys, refl, some_same xs zs (sym e) ∙ c)

-- ---- refusals

-- more texts may allocate
invalid_map : {k : ErrorKind} {c d : Bool} → (c ≡ true → d ≡ true) → IsInvalidData c k → IsInvalidData d k
invalid_map h (inl r) = inl r
invalid_map h (inr r) = inr (r.0, h r.1)

pub why_map : {k : ErrorKind} {a b c d : Bool} {P Q : List ℕ → Type 0} {s t : ReaderState} → (a ≡ true → b ≡ true) → (c ≡ true → d ≡ true) → ((o : Option (List ℕ)) → NoPrefix P o → NoPrefix Q o) → ReadFailure a c P s t k → ReadFailure b d Q s t k
why_map {s = s} f h g (malformed r e n) = malformed (invalid_map h r) e (g s.bytes n)
why_map f h g (no_memory r e m) = no_memory r e (f m)
why_map f h g (reader_failed r n) = reader_failed r (λ taken left e w. g (Some taken) (n taken left e w))

pub refused_map : {k : ErrorKind} {a b c d : Bool} {P Q : List ℕ → Type 0} {s t : ReaderState} → (a ≡ true → b ≡ true) → (c ≡ true → d ≡ true) → ((o : Option (List ℕ)) → NoPrefix P o → NoPrefix Q o) → ReadFails a c P s t k → ReadFails b d Q s t k
refused_map f h g r = record { tail = r.tail; retried = r.retried; why = why_map f h g r.why }

-- of the list r a front with Q is what makes the rest
pub record Past (Q : List ℕ → Type 0) (r rest : List ℕ) : Type 0 where
  pub more : List ℕ
  pub whole : r ≡ more ++ rest
  pub holds : Q more

-- of the lists with W those that are fronts of the bytes to come go on behind what was taken, with Q
abbrev pub GoesOn : (P Q W : List ℕ → Type 0) → Type 0
GoesOn P Q W = (f r front rest : List ℕ) → P f → W front → f ++ r ≡ front ++ rest → Past Q r rest

pub no_front_after : {P Q W : List ℕ → Type 0} {s t : ReaderState} → TakesPrefix P s t → GoesOn P Q W → NoPrefix Q t.bytes → NoPrefix W s.bytes
no_front_after {s = s} {t = t} p past none front rest e w =
    let l = told_after s.bytes t.bytes (front ++ rest) p.front e p.takes.bytes in
    let a = past p.front l.0 front rest p.holds w (sym l.2) in
    none a.more rest (l.1 ∙ ap Some a.whole) a.holds

-- where nothing that was taken later has Q, nothing that was taken altogether has W
none_taken_after : {P Q W : List ℕ → Type 0} {s t u : ReaderState} → TakesPrefix P s t → ConsumedSome t u → GoesOn P Q W → NoneTaken Q t u → NoneTaken W s u
none_taken_after {s = s} {t = t} {u = u} p r past none taken left e f front rest g w =
    let l = told_after s.bytes t.bytes (taken ++ left) p.front e p.takes.bytes in
    let m = told_after t.bytes u.bytes l.0 r.front l.1 r.bytes in
    let same : m.0 ≡ left = some_same m.0 left (sym m.1 ∙ f) in
    let later : l.0 ≡ r.front ++ left = m.2 ∙ ap (λ z. r.front ++ z) same in
    let all : taken ≡ p.front ++ r.front = append_cancel_right taken (p.front ++ r.front) left (l.2 ∙ ap (λ z. p.front ++ z) later ∙ sym (append_assoc p.front r.front left)) in
    let a = past p.front r.front front rest p.holds w (sym all ∙ some_same taken (front ++ rest) g) in
    none r.front left (l.1 ∙ ap Some later) f a.more rest (ap Some a.whole) a.holds

why_after : {k : ErrorKind} {a b c d : Bool} {P Q W : List ℕ → Type 0} {s t u : ReaderState} → (a ≡ true → b ≡ true) → (c ≡ true → d ≡ true) → TakesPrefix P s t → ConsumedSome t u → GoesOn P Q W → ReadFailure a c Q t u k → ReadFailure b d W s u k
why_after m h p tail past (malformed r e n) = malformed (invalid_map h r) (e ∙ p.takes.faults) (no_front_after p past n)
why_after m h p tail past (no_memory r e x) = no_memory r (e ∙ p.takes.faults) (m x)
why_after m h p tail past (reader_failed r n) = reader_failed (Rose-after p.takes.faults r) (none_taken_after p tail past n)

-- a refusal behind what was taken
pub refused_after : {k : ErrorKind} {a b c d : Bool} {P Q W : List ℕ → Type 0} {s t u : ReaderState} → (a ≡ true → b ≡ true) → (c ≡ true → d ≡ true) → TakesPrefix P s t → GoesOn P Q W → ReadFails a c Q t u k → ReadFails b d W s u k
refused_after m h p past r = record { tail = tail_after p r.tail; retried = r.retried; why = why_after m h p r.tail past r.why }

-- what was taken shows that the bytes are wrong
pub refused_here : {k : ErrorKind} {a b : Bool} {P W : List ℕ → Type 0} {s t : ReaderState} → IsInvalidData b k → TakesPrefix P s t → NoPrefix W s.bytes → ReadFails a b W s t k
refused_here {k = k} r p none = record { tail = tail_of p; retried = λ e. elim r [ inl f ↦ cc (e, f) | inr f ↦ cc (e, f.0) ]; why = malformed r p.takes.faults none }

-- an allocation failed
pub refused_memory : {k : ErrorKind} {a b : Bool} {P W : List ℕ → Type 0} {s t : ReaderState} → k ≡ OutOfMemory → TakesPrefix P s t → a ≡ true → ReadFails a b W s t k
refused_memory {k = k} r p m = record { tail = tail_of p; retried = λ e. cc (e, r); why = no_memory r p.takes.faults m }

-- fewer than n bytes have no prefix of n
too_few : (n : ℕ) (s t : ReaderState) → TookFewerThan s t n → NoneTaken (λ x. length x ≡ n) s t
too_few n s t fewer taken left e f front rest g w = omega (arith, fewer taken left e f, w, ap length (some_same taken (front ++ rest) g), length-append front rest)

-- a buffer of n bytes could not be filled
pub refused_short : {k : ErrorKind} {s t : ReaderState} (n : ℕ) → ConsumedSome s t → k ≢ Interrupted → ReadExactFailure s t n k → k ≢ UnexpectedEof → ReadFails false false (λ x. length x ≡ n) s t k
refused_short n tail retried (inl c) other = absurd (other c.0)
refused_short {s = s} {t = t} n tail retried (inr c) other = record { tail = tail; retried = retried; why = reader_failed c.0 (too_few n s t c.1) }

short-front : (s : ReaderState) (n : ℕ) (o : Option (List ℕ)) → IfSome o (λ xs. length xs < n) → (front rest : List ℕ) → o ≡ Some (front ++ rest) → length front ≡ n → ⊥
short-front s n None h front rest e w = cc
short-front s n (Some xs) h front rest e w = let f : xs ≡ front ++ rest = cc in omega (arith, h, w, ap length f, Rattle.std.proofs.Common.length-append front rest)

-- the input ended, or the reader says so
pub refused_end : {k : ErrorKind} {s t : ReaderState} (n : ℕ) → ConsumedSome s t → ReadExactFailure s t n UnexpectedEof → k ≡ InvalidData → ReadFails false false (λ x. length x ≡ n) s t k
refused_end {k = k} {s = s} n tail (inl c) is = record { tail = tail; retried = λ e. cc (e, is); why = malformed (inl is) c.2 (short-front s n s.bytes c.1) }
refused_end {k = k} {s = s} {t = t} n tail (inr c) is = record { tail = tail; retried = λ e. cc (e, is); why = reader_failed c.0 (too_few n s t c.1) }

-- ---- values

pub reads_at : {A : Type 0} {c : Codec A} (s : ReaderState) {t u : ReaderState} {v : A} → t.strict_order ≡ s.strict_order → Decoded A c t u v → TakesPrefix (λ x. c.decodes s.strict_order x v) t u
reads_at {c = c} s {t = t} {u = u} {v = v} e r = subst (λ m. TakesPrefix (λ x. c.decodes m x v) t u) e r.took

pub denied_at : {A : Type 0} {c : Codec A} (s : ReaderState) {t u : ReaderState} {k : ErrorKind} → t.strict_order ≡ s.strict_order → NotDecoded A c t u k → ReadFails c.decoding_allocates c.texts_allocate (IsDecodable c s.strict_order) t u k
denied_at {c = c} s {t = t} {u = u} {k = k} e r = subst (λ m. ReadFails c.decoding_allocates c.texts_allocate (IsDecodable c m) t u k) e r.refused

-- a value was read, and an allocation for more failed
pub denied_memory : {A : Type 0} {c : Codec A} {P : List ℕ → Type 0} {s t : ReaderState} {k : ErrorKind} → c.decoding_allocates ≡ true → TakesPrefix P s t → k ≡ OutOfMemory → NotDecoded A c s t k
denied_memory m p e = record { refused = refused_memory e p m }
