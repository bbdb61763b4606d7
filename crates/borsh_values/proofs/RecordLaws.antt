-- Values one after another.
use Rattle.std.proofs.Common.{◌≡◌, ℕ, zero, suc, ◌<◌, List, [], ◌∷◌, ◌++◌, length, take, drop, refl, sym, ◌∙◌, ap, subst, arith, append-nil, take-append-drop, length-take-le, ◌+◌, ◌*◌, ◌≤◌, true≢false, Bool, true, false, Result, Ok, Err, le_refl, append_assoc, length-append, length-take}
use Rattle.std.specs.Prelude.{Option, ◌-◌, ◌^◌, ◌⊎◌, min, IfErr}
use Rattle.std.proofs.lemmas.List.{append_cancel_left, take-append-le, drop-append-le}
use Rattle.borsh_walks.specs.Container.{Shape, Member}
use Rattle.std.specs.Io.KnownBytes.{IsAtEnd}
use Rattle.borsh_io.specs.{Errors.error_kind, Stream.ReaderState, Stream.CountedUp}
use Rattle.borsh_io.specs.declared.{error.Error.Error, error.ErrorKind.TheVariants.OutOfMemory as NoRoom}
use Rattle.borsh_values.specs.declared.records.RecordError.TheVariants.{NoMember, CutShort, TooLong, EmptyValue, Ambiguous, Reader, OutOfMemory}
use Rattle.borsh_values.specs.declared.{faults.Fault.Fault, records.Records.Records, records.RecordError.RecordError}
use Rattle.borsh_values.specs.Membership.{IsFront, HasNoFront, BeginsWith}
use Rattle.borsh_io.specs.Buffered.{IsUnread, Lost, ReadsMore, TakesHeld, most_at_once}
use Rattle.borsh_values.specs.Records.{AreValues, IsFirst, IsFirstOf, IsRecordError, FaultsAre, Advances, AdvancesHeld, SameRoot, TurnsFall, ahead, limit_of, next_offset, source_of, value_of}
use Rattle.std.proofs.KnownBytes.{Consumes-nil, Consumes-trans}

-- ---- the first of some values
no_bytes : (xs ys : List ℕ) → xs ++ ys ≡ [] → length xs ≡ 0
no_bytes [] ys e = refl
no_bytes (x ∷ xs) ys e = cc

module _ (C : List ℕ → Option Shape) (root bytes : List ℕ) where
  positive : (n : ℕ) → (n ≡ 0 → ⊥) → 0 < n
  positive zero f = absurd (f refl)
  positive (suc n) f = omega arith

  pub is_first : (n : ℕ) → (n ≡ 0 → ⊥) → IsFront C root bytes n → IsFirst C root (take n bytes) bytes (drop n bytes)
  is_first n some h =
      let more = positive n some in
      let low = h.within in
      let long = length-take-le n bytes low in
      let whole : bytes ≡ take n bytes ++ drop n bytes = sym (take-append-drop n bytes) in
      record {
        member = h.member;
        some = omega (arith, long, more);
        split = whole;
        only = λ vs a. first vs a;
      }
    where
      first : (vs : List (List ℕ)) → AreValues C root vs bytes → (others : List (List ℕ)) × (vs ≡ take n bytes ∷ others) × AreValues C root others (drop n bytes)
      first [] a = absurd (let low = h.within in let long = length-take-le n bytes low in let z = no_bytes (take n bytes) (drop n bytes) (take-append-drop n bytes ∙ a) in let more = positive n some in omega (arith, z, long, more))
      first (v ∷ vs) a =
          let same : v ≡ take n bytes = h.only v a.0 [] a.1 (sym a.2 ∙ sym (append-nil bytes)) in
          let left : a.0 ≡ drop n bytes = append_cancel_left v a.0 (drop n bytes) (sym a.2 ∙ sym (take-append-drop n bytes) ∙ ap (λ l. l ++ drop n bytes) (sym same)) in
          (vs, ap (λ l. l ∷ vs) same, subst (λ l. AreValues C root vs l) left a.3)

-- ---- values

length-taken : (n : ℕ) (xs : List ℕ) → length (take n xs) ≤ length xs
length-taken n xs =
    let l : length xs ≡ length (take n xs) + length (drop n xs) = ap (λ l. length l) (sym (take-append-drop n xs)) ∙ length-append (take n xs) (drop n xs) in
    omega (arith, l)

module _ (C : List ℕ → Option Shape) (root bytes : List ℕ) (limit : ℕ) where
  -- the bytes that are tried, and those behind them
  tried-on : (more : List ℕ) → take limit bytes ++ (drop limit bytes ++ more) ≡ bytes ++ more
  tried-on more = sym (append_assoc (take limit bytes) (drop limit bytes) more) ∙ ap (λ l. l ++ more) (take-append-drop limit bytes)

  front-longer : (xs more : List ℕ) (n : ℕ) → IsFront C root xs n → IsFront C root (xs ++ more) n
  front-longer xs more n f =
      let same = take-append-le n xs more f.within in
      let low = f.within in
      record {
        within = omega (arith, low, length-append xs more);
        member = subst (λ l. Member C root l) (sym same) f.member;
        only = λ vs ys zs m e. f.only vs ys (more ++ zs) m (e ∙ append_assoc xs more zs) ∙ sym same;
      }

  -- what begins the bytes that are tried is the first value of all
  pub first-of : (n : ℕ) → (n ≡ 0 → ⊥) → IsFront C root (take limit bytes) n → IsFirstOf C root n bytes
  first-of n some f =
      let low : n ≤ length bytes = (let a = f.within in omega (arith, a, length-taken limit bytes)) in
      record {
        within = low;
        first = λ more.
            let g = subst (λ l. IsFront C root l n) (tried-on more) (front-longer (take limit bytes) (drop limit bytes ++ more) n f) in
            subst (λ v. IsFirst C root v (bytes ++ more) (drop n bytes ++ more)) (take-append-le n bytes more low)
            (subst (λ l. IsFirst C root (take n (bytes ++ more)) (bytes ++ more) l) (drop-append-le n bytes more low) (is_first C root (bytes ++ more) n some g));
      }

  pub within-limit : (n : ℕ) → IsFront C root (take limit bytes) n → n ≤ limit
  within-limit n f = let a = f.within in omega (arith, a, length-take limit bytes)

  pub none-whatever : (f : Fault) → ((more : List ℕ) → HasNoFront C root (take limit bytes ++ more) f) → (more : List ℕ) → HasNoFront C root (bytes ++ more) f
  none-whatever f h more = subst (λ l. HasNoFront C root l f) (tried-on more) (h (drop limit bytes ++ more))

-- ---- the next value

-- what was read since a call began, and that no value was found in it
pub record ReadSoFar {R : Type 0} (state : R → ReaderState) (old now : Records R) (at_end : Bool) : Type 0 where
  pub read : List ℕ
  pub lost : Lost (state (source_of old)) (state (source_of now)) read
  pub faults : (state (source_of now)).faults ≡ (state (source_of old)).faults
  pub ahead : ahead now ≡ ahead old ++ read
  pub next : next_offset now ≡ next_offset old
  pub ends : at_end ≡ true → IsAtEnd (state (source_of now)).bytes
  pub same : SameRoot old now

module _ (C : List ℕ → Option Shape) (root : List ℕ) {R : Type 0} where
  -- the first n of the bytes that are ahead were taken
  pub value-taken : (old new : Records R) (nothing ended : Type 0) (n : ℕ) → IsFirstOf C root n (ahead old) → n ≤ limit_of old → TakesHeld old.input new.input n
      → next_offset new ≡ min (next_offset old + n) (2 ^ 64 - 1) → AdvancesHeld C root old new nothing ended (Ok true)
  value-taken old new nothing ended n f low t at =
      let long : length (value_of new) ≡ n = ap (λ l. length l) t.piece ∙ length-take-le n (ahead old) f.within in
      record {
        reader = t.reader;
        goes = record {
          found = λ _ more. subst (λ v. IsFirst C root v (ahead old ++ more) (ahead new ++ more)) (sym t.piece)
              (subst (λ l. IsFirst C root (take n (ahead old)) (ahead old ++ more) (l ++ more)) (sym t.held) (f.first more));
          short = λ _. omega (arith, long, low);
          next = λ _. at ∙ ap (λ k. min (next_offset old + k) (2 ^ 64 - 1)) (sym long);
          none = λ e. absurd (true≢false (ok_same e));
          error = tt;
          kept = λ f. absurd (f refl);
        };
      }
    where
      ok_same : {a b : Bool} → ◌≡◌ {A = Result Bool RecordError} (Ok a) (Ok b) → a ≡ b
      ok_same e = cc

  module _ (state : R → ReaderState) where
    pub reading-begins : (old : Records R) → ReadSoFar state old old false
    reading-begins old = record {
      read = [];
      lost = record { bounded = omega arith; bytes = Consumes-nil _; interruptions = le_refl _; reads_left = le_refl _; strict_order = refl };
      faults = refl;
      ahead = sym (append-nil (ahead old));
      next = refl;
      ends = λ e. absurd (true≢false (sym e));
      same = (refl, refl);
    }

    lost-more : (s t u : ReaderState) (xs ys : List ℕ) → Lost s t xs → Lost t u ys → Lost s u (xs ++ ys)
    lost-more s t u xs ys p q = record {
      bounded = (let a = p.bounded in let b = q.bounded in omega (arith, a, b, length-append xs ys));
      bytes = Consumes-trans _ _ _ xs ys p.bytes q.bytes;
      interruptions = (let a = p.interruptions in let b = q.interruptions in omega (arith, a, b));
      reads_left = (let a = p.reads_left in let b = q.reads_left in omega (arith, a, b));
      strict_order = q.strict_order ∙ p.strict_order;
    }

    -- the call returns what was found in what was read
    pub reading-ends : (old now new : Records R) (e : Bool) (r : Result Bool RecordError) → ReadSoFar state old now e → AdvancesHeld C root now new (e ≡ true → ahead now ≡ []) (e ≡ true) r → (r ≡ Ok false → e ≡ true) → Advances C root state old new r
    reading-ends old now new e r p a f =
        let same : ahead now ≡ ahead old ++ p.read = p.ahead in
        let at_end : e ≡ true → IsAtEnd (state (source_of new)).bytes = λ q. subst (λ s. IsAtEnd (state s).bytes) (sym a.reader) (p.ends q) in
        let g = a.goes in
        let B = ahead old ++ p.read in
        record {
          read = p.read;
          lost = subst (λ s. Lost (state (source_of old)) (state s) p.read) (sym a.reader) p.lost;
          faults = no-fault r (ap (λ s. (state s).faults) a.reader ∙ p.faults) g.error;
          goes = record {
            found = λ q more. subst (λ b. IsFirst C root (value_of new) (b ++ more) (ahead new ++ more)) same (g.found q more);
            short = λ q. subst (λ l. length (value_of new) ≤ l) p.same.1 (g.short q);
            next = λ q. g.next q ∙ ap (λ k. min (k + length (value_of new)) (2 ^ 64 - 1)) p.next;
            none = λ q. (sym same ∙ g.none q (f q), at_end (f q));
            error = errors r at_end g.error;
            kept = λ q. let k = g.kept q in (k.0 ∙ same, k.1 ∙ p.next);
          };
        }
      where
        no-fault : (r : Result Bool RecordError) → (state (source_of new)).faults ≡ (state (source_of old)).faults
            → IfErr r (λ x. IsRecordError C root (ahead now) (next_offset now) (limit_of now) (e ≡ true) (λ _. ⊥) x) → FaultsAre (state (source_of old)) (state (source_of new)) r
        no-fault (Ok b) h q = h
        no-fault (Err (NoMember o f)) h q = h
        no-fault (Err (CutShort o f)) h q = h
        no-fault (Err (TooLong o)) h q = h
        no-fault (Err EmptyValue) h q = h
        no-fault (Err (Ambiguous x)) h q = h
        no-fault (Err (Reader x)) h q = absurd q
        no-fault (Err OutOfMemory) h q = h

        errors : (r : Result Bool RecordError) → (e ≡ true → IsAtEnd (state (source_of new)).bytes) → IfErr r (λ x. IsRecordError C root (ahead now) (next_offset now) (limit_of now) (e ≡ true) (λ _. ⊥) x)
            → IfErr r (λ x. IsRecordError C root (ahead old ++ p.read) (next_offset old) (limit_of old) (IsAtEnd (state (source_of new)).bytes) (IsUnread (state (source_of old)) (state (source_of new))) x)
        errors (Ok b) h q = tt
        errors (Err (NoMember o f)) h q = (q.0 ∙ p.next, λ more. subst (λ b. HasNoFront C root (b ++ more) f) p.ahead (q.1 more))
        errors (Err (CutShort o f)) h q = (q.0 ∙ p.next, subst (λ b. HasNoFront C root b f) p.ahead q.1, λ z. q.2 (p.ahead ∙ z), h q.3)
        errors (Err (TooLong o)) h q = (q.0 ∙ p.next, subst (λ l. l ≤ length (ahead old ++ p.read)) p.same.1 (subst (λ b. limit_of now ≤ length b) p.ahead q.1), subst (λ l. BeginsWith C root (take l (ahead old ++ p.read)) → ⊥) p.same.1 (subst (λ b. BeginsWith C root (take (limit_of now) b) → ⊥) p.ahead q.2))
        errors (Err EmptyValue) h q = q
        errors (Err (Ambiguous x)) h q = q
        errors (Err (Reader x)) h q = absurd q
        errors (Err OutOfMemory) h q = tt

    -- nothing more was read
    pub reading-fails : (old now mid new : Records R) (e : Bool) (nothing ended : Type 0) (err : Error) → ReadSoFar state old now e → AdvancesHeld C root now mid nothing ended (Ok false)
        → ReadsMore state mid.input new.input (Err err) → next_offset new ≡ next_offset mid → Advances C root state old new (Err (Reader err))
    reading-fails old now mid new e nothing ended err p a m at =
        let never : ◌≡◌ {A = Result Bool RecordError} (Ok false) (Ok true) → ⊥ = λ q. absurd (cc) in
        let kept = a.goes.kept never in
        let lost = subst (λ r. Lost (state r) (state (source_of new)) m.read) a.reader m.lost in
        let same = ap (λ r. (state r).faults) a.reader ∙ p.faults in
        let why = subst (λ k. ((error_kind err ≡ NoRoom) × ((state (source_of new)).faults ≡ k)) ⊎ CountedUp k (state (source_of new)).faults) same m.failed in
        record {
          read = p.read ++ m.read;
          lost = lost-more _ _ _ p.read m.read p.lost lost;
          faults = why;
          goes = record {
            found = λ q. absurd (cc);
            short = λ q. absurd (cc);
            next = λ q. absurd (cc);
            none = λ q. absurd (cc);
            error = why;
            kept = λ q. (m.held ∙ ap (λ l. l ++ m.read) (kept.0 ∙ p.ahead) ∙ append_assoc (ahead old) p.read m.read, at ∙ kept.1 ∙ p.next);
          };
        }

    -- each value is at least one byte
    falls : (s t : ℕ) (old read v left more : List ℕ) → IsFirst C root v ((old ++ read) ++ more) (left ++ more) → length read + most_at_once * t ≤ most_at_once * s → most_at_once * t + length left < most_at_once * s + length old
    falls s t old read v left more f b =
        let some = f.some in
        let e : (length old + length read) + length more ≡ length v + (length left + length more) =
        sym (length-append (old ++ read) more ∙ ap (λ k. k + length more) (length-append old read)) ∙ ap (λ l. length l) f.split ∙ length-append v (left ++ more) ∙ ap (λ k. length v + k) (length-append left more) in
        omega (arith, some, e, b)

    pub falls-on : (old new : Records R) (r : Result Bool RecordError) → Advances C root state old new r → TurnsFall state old new r
    falls-on old new r a is = falls _ _ (ahead old) a.read (value_of new) (ahead new) [] (a.goes.found is []) a.lost.bounded

    pub falls-held : (old new : Records R) (nothing ended : Type 0) (r : Result Bool RecordError) → AdvancesHeld C root old new nothing ended r → TurnsFall state old new r
    falls-held old new nothing ended r a is =
        let f = subst (λ l. IsFirst C root (value_of new) (l ++ []) (ahead new ++ [])) (sym (append-nil (ahead old))) (a.goes.found is []) in
        let same : (state (source_of new)).reads_left ≡ (state (source_of old)).reads_left = ap (λ s. (state s).reads_left) a.reader in
        falls _ _ (ahead old) [] (value_of new) (ahead new) [] f (omega (arith, same))

    -- a value that was at hand is the next one
    pub at_hand : (old new : Records R) (nothing ended : Type 0) → AdvancesHeld C root old new nothing ended (Ok true) → Advances C root state old new (Ok true)
    at_hand old new nothing ended a =
        let g = a.goes in
        let h : AdvancesHeld C root old new (false ≡ true → ahead old ≡ []) (false ≡ true) (Ok true) = record {
          reader = a.reader;
          goes = record { found = g.found; short = g.short; next = g.next; none = λ e. absurd (cc); error = tt; kept = g.kept };
        } in
        reading-ends old old new false (Ok true) (reading-begins old) h (λ e. absurd (cc))
