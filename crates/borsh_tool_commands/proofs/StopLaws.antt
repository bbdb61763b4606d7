-- Why a run over many values stops.
use Rattle.std.proofs.Common.{◌≡◌, ℕ, ◌≤◌, inl, inr, Bool, true, false, List, [], ◌∷◌, ◌++◌, length, take, Option, None, Some, Result, Ok, Err, refl, sym, ◌∙◌, ap, subst, arith, append_assoc, append-nil, length-append}
use Rattle.std.specs.Prelude.{◌⊎◌, ⊤, IfErr, MatchResult, Vec}
use Rattle.std.specs.Global.{Global}
use Rattle.std.specs.Io.KnownBytes.{Consumes, IsAtEnd}
use Rattle.std.proofs.KnownBytes.{Consumes-nil}
use Rattle.std.proofs.lemmas.List.{take-append-le}
use Rattle.borsh_io.specs.Stream.{ReaderState}
use Rattle.borsh_io.specs.declared.error.Error.{Error}
use Rattle.borsh_walks.specs.Container.{Shape, Member}
use Rattle.borsh_values.specs.Membership.{BeginsWith, HasNoFront}
use Rattle.borsh_values.specs.Records.{Advances, AdvancesHeld, IsRecordError, ahead, source_of}
use Rattle.borsh_values.specs.declared.records.Records.{Records}
use Rattle.borsh_values.specs.declared.records.RecordError.{RecordError}
use Rattle.borsh_values.specs.declared.records.RecordError.TheVariants.{NoMember, CutShort, TooLong, EmptyValue, Ambiguous, Reader, OutOfMemory as NoRecordMemory}
use Rattle.borsh_tool_commands.specs.declared.failure.Failure.{Failure}
use Rattle.borsh_tool_commands.specs.declared.failure.Failure.TheVariants.{NoCommand, Unreadable, NotHexadecimal, NotContainer, NotValue, NotText, TwoInputs, RawOnTerminal, WrongUse, Unread, Unwritten, LongLine, NotType, OutOfMemory}
use Rattle.borsh_tool_commands.specs.Failures.{IsFailure, IsStop}
use Rattle.borsh_tool_commands.specs.Many.{NoValueBegins, EndsValues, IsErrorLine, IsNotValue, IsPlaced, IsRefusedAs, IsUncounted, IsValueError, IsWriteFailure, NoneNext, most_bytes, rest_of}

-- a stop whose facts lead to others
pub stop-led : (path : List ℕ) {u v : Error → Type 0} {a b x y : Type 0} → ((e : Error) → u e → v e) → (a → x) → (b → y) → (f : Failure) → IsStop path u a b f → IsStop path v x y f
stop-led path f g h NoCommand k = absurd k
stop-led path f g h (Unreadable p e) k = absurd k
stop-led path f g h (NotHexadecimal p e) k = absurd k
stop-led path f g h (NotContainer p e) k = absurd k
stop-led path f g h (NotValue p t) k = (k.0, g k.1)
stop-led path f g h (NotText p) k = absurd k
stop-led path f g h TwoInputs k = absurd k
stop-led path f g h RawOnTerminal k = absurd k
stop-led path f g h (WrongUse e) k = absurd k
stop-led path f g h (Unread p e) k = (k.0, f e k.1)
stop-led path f g h (Unwritten e) k = tt
stop-led path f g h (LongLine p) k = (k.0, h k.1)
stop-led path f g h (NotType p t) k = absurd k
stop-led path f g h OutOfMemory k = tt

-- the writer failed
pub stops-unwritten : (path : List ℕ) (u : Error → Type 0) (a b : Type 0) → (f : Failure) → IsWriteFailure f → IsStop path u a b f
stops-unwritten path u a b NoCommand k = absurd k
stops-unwritten path u a b (Unreadable p e) k = absurd k
stops-unwritten path u a b (NotHexadecimal p e) k = absurd k
stops-unwritten path u a b (NotContainer p e) k = absurd k
stops-unwritten path u a b (NotValue p t) k = absurd k
stops-unwritten path u a b (NotText p) k = absurd k
stops-unwritten path u a b TwoInputs k = absurd k
stops-unwritten path u a b RawOnTerminal k = absurd k
stops-unwritten path u a b (WrongUse e) k = absurd k
stops-unwritten path u a b (Unread p e) k = absurd k
stops-unwritten path u a b (Unwritten e) k = tt
stops-unwritten path u a b (LongLine p) k = absurd k
stops-unwritten path u a b (NotType p t) k = absurd k
stops-unwritten path u a b OutOfMemory k = tt

-- there is no value, or an allocation failed
pub failed-stops : (path : List ℕ) (u : Error → Type 0) (a b : Type 0) → (f : Failure) → IsFailure path ⊥ a ⊥ f → IsStop path u a b f
failed-stops path u a b NoCommand k = absurd k
failed-stops path u a b (Unreadable p e) k = absurd k
failed-stops path u a b (NotHexadecimal p e) k = absurd k
failed-stops path u a b (NotContainer p e) k = absurd k.1
failed-stops path u a b (NotValue p t) k = k
failed-stops path u a b (NotText p) k = absurd k.1
failed-stops path u a b TwoInputs k = absurd k
failed-stops path u a b RawOnTerminal k = absurd k
failed-stops path u a b (WrongUse e) k = absurd k
failed-stops path u a b (Unread p e) k = absurd k
failed-stops path u a b (Unwritten e) k = absurd k
failed-stops path u a b (LongLine p) k = absurd k
failed-stops path u a b (NotType p t) k = absurd k
failed-stops path u a b OutOfMemory k = tt

-- the same with another text
pub placed-stops : (path : List ℕ) (u : Error → Type 0) (a b : Type 0) → (f g : Failure) → IsPlaced f g → IsFailure path ⊥ a ⊥ f → IsStop path u a b g
placed-stops path u a b f g p k = elim p [
  | inl e ↦ subst (IsStop path u a b) (sym e) tt
  | inr q ↦ elim q [
    | inl e ↦ subst (IsStop path u a b) (sym e) (failed-stops path u a b f k)
    | inr n ↦ subst (IsStop path u a b) (sym n.4) (subst (IsFailure path ⊥ a ⊥) n.3 k)
  ]
]

-- ---- a line that has no answer

refused : (path : List ℕ) (a : Type 0) (f : Failure) → IsFailure path ⊥ a ⊥ f → IsNotValue f → a
refused path a NoCommand k is = absurd is
refused path a (Unreadable p e) k is = absurd is
refused path a (NotHexadecimal p e) k is = absurd is
refused path a (NotContainer p e) k is = absurd is
refused path a (NotValue p t) k is = k.1
refused path a (NotText p) k is = absurd is
refused path a TwoInputs k is = absurd is
refused path a RawOnTerminal k is = absurd is
refused path a (WrongUse e) k is = absurd is
refused path a (Unread p e) k is = absurd is
refused path a (Unwritten e) k is = absurd is
refused path a (LongLine p) k is = absurd is
refused path a (NotType p t) k is = absurd is
refused path a OutOfMemory k is = absurd is

other-failure : (path : List ℕ) (u : Error → Type 0) (a b c : Type 0) (f : Failure) → IsFailure path ⊥ a ⊥ f → (IsNotValue f → ⊥) → IsStop path u c b f
other-failure path u a b c NoCommand k is = absurd k
other-failure path u a b c (Unreadable p e) k is = absurd k
other-failure path u a b c (NotHexadecimal p e) k is = absurd k
other-failure path u a b c (NotContainer p e) k is = absurd k.1
other-failure path u a b c (NotValue p t) k is = absurd (is tt)
other-failure path u a b c (NotText p) k is = absurd k.1
other-failure path u a b c TwoInputs k is = absurd k
other-failure path u a b c RawOnTerminal k is = absurd k
other-failure path u a b c (WrongUse e) k is = absurd k
other-failure path u a b c (Unread p e) k is = absurd k
other-failure path u a b c (Unwritten e) k is = absurd k
other-failure path u a b c (LongLine p) k is = absurd k
other-failure path u a b c (NotType p t) k is = absurd k
other-failure path u a b c OutOfMemory k is = tt

-- it has an error line, or the failure is another one
pub refused-line : (path : List ℕ) (u : Error → Type 0) (a b c : Type 0) (f : Failure) (r : Result (Vec ℕ Global) Failure) → IsFailure path ⊥ a ⊥ f → IsRefusedAs f r → MatchResult r (λ line. IsErrorLine line.items × a) (IsStop path u c b)
refused-line path u a b c f (Ok line) k h = (h.0, refused path a f k h.1)
refused-line path u a b c f (Err x) k h = elim h [
  | inl e ↦ subst (IsStop path u c b) (sym e) tt
  | inr o ↦ subst (IsStop path u c b) (sym o.0) (other-failure path u a b c f k o.1)
]

-- ---- no next value

nothing-left : (xs ys : List ℕ) → [] ≡ xs ++ ys → xs ≡ []
nothing-left [] ys e = refl
nothing-left (x ∷ xs) ys e = absurd (cc)

none-left : (now : Option (List ℕ)) → IsAtEnd now → rest_of now ≡ []
none-left None h = refl
none-left (Some ys) h = h

module _ (C : List ℕ → Option Shape) (root : List ℕ) where
  -- none begins the bytes, whatever follows
  begins-none : (X rest : List ℕ) → ((more : List ℕ) → (BeginsWith C root (X ++ more) → ⊥)) → NoValueBegins C root (X ++ rest)
  begins-none X rest none = (none rest, λ e v m. none v (v, [], m, ap (λ l. l ++ v) (nothing-left X rest (sym e)) ∙ sym (append-nil v)))

  -- an error that doesn't end values
  pub uncounted : (X rest : List ℕ) (at limit : ℕ) (ended : Type 0) (unread : Error → Type 0) (e : RecordError) → limit ≡ most_bytes → IsRecordError C root X at limit ended unread e → IsValueError e → (EndsValues e → ⊥) → IsUncounted C root (X ++ rest)
  uncounted X rest at limit ended unread (NoMember o f) k h v n = absurd (n tt)
  uncounted X rest at limit ended unread (CutShort o f) k h v n = absurd (n tt)
  uncounted X rest at limit ended unread (TooLong o) k h v n =
      let within : most_bytes ≤ length X = subst (λ n. n ≤ length X) k h.1 in
      let same : take most_bytes (X ++ rest) ≡ take limit X = take-append-le most_bytes X rest within ∙ ap (λ n. take n X) (sym k) in
      inl (omega (arith, within, length-append X rest), subst (λ l. BeginsWith C root l → ⊥) (sym same) h.2)
  uncounted X rest at limit ended unread EmptyValue k h v n = inr (inl h)
  uncounted X rest at limit ended unread (Ambiguous x) k h v n = inr (inr (x.now, h))
  uncounted X rest at limit ended unread (Reader e) k h v n = absurd v
  uncounted X rest at limit ended unread NoRecordMemory k h v n = absurd v

  -- an error, of bytes behind which others are left
  pub no-value : (X rest : List ℕ) (at limit : ℕ) (ended : Type 0) (unread : Error → Type 0) (e : RecordError) → (ended → rest ≡ []) → limit ≡ most_bytes → IsRecordError C root X at limit ended unread e → IsValueError e → NoValueBegins C root (X ++ rest) ⊎ IsUncounted C root (X ++ rest)
  no-value X rest at limit ended unread (NoMember o f) end k h v = inl (begins-none X rest (λ more. (h.1 more).none))
  no-value X rest at limit ended unread (CutShort o f) end k h v = inl (subst (NoValueBegins C root) (sym (ap (λ l. X ++ l) (end h.3) ∙ append-nil X)) (h.1.none, λ e. absurd (h.2 e)))
  no-value X rest at limit ended unread (TooLong o) end k h v = inr (uncounted X rest at limit ended unread (TooLong o) k h v (λ u. u))
  no-value X rest at limit ended unread EmptyValue end k h v = inr (uncounted X rest at limit ended unread EmptyValue k h v (λ u. u))
  no-value X rest at limit ended unread (Ambiguous x) end k h v = inr (uncounted X rest at limit ended unread (Ambiguous x) k h v (λ u. u))
  no-value X rest at limit ended unread (Reader e) end k h v = absurd v
  no-value X rest at limit ended unread NoRecordMemory end k h v = absurd v

  module _ {R : Type 0} (state : R → ReaderState) (old new : Records R) where
    -- after more was read
    pub none-next : (e : RecordError) → old.limit ≡ most_bytes → Advances C root state old new (Err e) → IsValueError e → NoneNext C root (state (source_of old)) (state (source_of new)) (ahead old)
    none-next e k a v = record {
      read = a.read;
      taken = a.lost.bytes;
      none = no-value (ahead old ++ a.read) (rest_of (state (source_of new)).bytes) old.next old.limit _ _ e (none-left (state (source_of new)).bytes) k a.goes.error v;
    }

    -- after nothing was found in what was held
    pub none-after : (mid : Records R) (e : RecordError) {ended : Type 0} → old.limit ≡ most_bytes → mid.limit ≡ old.limit → AdvancesHeld C root old mid ⊤ ended (Ok false) → Advances C root state mid new (Err e) → IsValueError e
        → NoneNext C root (state (source_of old)) (state (source_of new)) (ahead old)
    none-after mid e k s h a v =
        let n : NoneNext C root (state (source_of mid)) (state (source_of new)) (ahead mid) = record {
          read = a.read;
          taken = a.lost.bytes;
          none = no-value (ahead mid ++ a.read) (rest_of (state (source_of new)).bytes) mid.next mid.limit _ _ e (none-left (state (source_of new)).bytes) (s ∙ k) a.goes.error v;
        } in
        let same = (h.goes.kept (λ t. absurd (cc))).0 in
        subst (λ (r : R). NoneNext C root (state r) (state (source_of new)) (ahead old)) h.reader (subst (λ l. NoneNext C root (state (source_of mid)) (state (source_of new)) l) same n)

    -- where nothing was read
    pub none-held : (e : RecordError) {nothing : Type 0} → old.limit ≡ most_bytes → AdvancesHeld C root old new nothing ⊥ (Err e) → IsValueError e → NoneNext C root (state (source_of old)) (state (source_of new)) (ahead old)
    none-held e k a v =
        let same = ap state a.reader in
        let rest : List ℕ = rest_of (state (source_of new)).bytes in
        record {
          read = [];
          taken = subst (λ (s : ReaderState). Consumes (state (source_of old)).bytes s.bytes []) (sym same) (Consumes-nil (state (source_of old)).bytes);
          none = subst (λ l. NoValueBegins C root (l ++ rest) ⊎ IsUncounted C root (l ++ rest)) (sym (append-nil (ahead old))) (no-value (ahead old) rest old.next old.limit _ _ e (λ u. absurd u) k a.goes.error v);
        }
