-- What is written for many values.
use Rattle.std.proofs.Common.{◌≡◌, ℕ, ◌+◌, inl, inr, true, false, List, [], ◌∷◌, ◌++◌, length, Option, None, Some, IfSome, Result, Ok, Err, refl, sym, ◌∙◌, ap, subst, append_assoc, append-nil}
use Rattle.std.specs.Prelude.{Bool, IfErr, IfOk, OnOk, codes}
use Rattle.std.specs.Io.KnownBytes.{Consumes, IsAtEnd}
use Rattle.std.proofs.KnownBytes.{Consumes-nil}
use Rattle.borsh_io.specs.declared.error.Error.{Error}
use Rattle.borsh_tool_commands.proofs.StopLaws.{stop-led, stops-unwritten, uncounted}
use Rattle.std.proofs.lemmas.List.{length_push}
use Rattle.borsh_io.specs.Sink.{WriterModel, WriterLaws}
use Rattle.borsh_io.specs.Stream.{ReaderState}
use Rattle.borsh_walks.specs.Container.{Shape}
use Rattle.borsh_values.specs.Membership.{HasNoFront}
use Rattle.borsh_io.specs.Buffered.{IsUnread}
use Rattle.borsh_values.specs.Records.{IsFirst, Advances, IsRecordError, ahead, source_of, value_of}
use Rattle.borsh_values.specs.declared.faults.Fault.{Fault}
use Rattle.borsh_plan.specs.declared.plan.Plan.{Plan}
use Rattle.borsh_values.specs.declared.records.Records.{Records}
use Rattle.borsh_values.specs.declared.records.RecordError.{RecordError}
use Rattle.borsh_values.specs.declared.records.RecordError.TheVariants.{NoMember, CutShort, TooLong, EmptyValue, Ambiguous, Reader, OutOfMemory as NoRecordMemory}
use Rattle.borsh_tool_commands.specs.declared.command.Action.{Action}
use Rattle.borsh_tool_commands.specs.declared.command.Action.TheVariants.{Decode, Encode, Member as AskMember, Show}
use Rattle.borsh_tool_commands.specs.declared.command.Form.{Form}
use Rattle.borsh_tool_commands.specs.declared.command.Form.TheVariants.{Records as AsRecords, Lines as AsLines}
use Rattle.borsh_tool_commands.specs.declared.failure.Failure.{Failure}
use Rattle.borsh_tool_commands.specs.declared.failure.Failure.TheVariants.{NoCommand, Unreadable, NotHexadecimal, NotContainer, NotValue, NotText, TwoInputs, RawOnTerminal, WrongUse, Unread, Unwritten, LongLine, NotType, OutOfMemory}
use Rattle.borsh_tool_commands.specs.declared.many.Wanted.{Wanted}
use Rattle.borsh_tool_commands.specs.Failures.{IsStop}
use Rattle.borsh_tool_commands.specs.Lines.{IsFirstLine}
use Rattle.borsh_plan.specs.Plan.{definitions_of, root_of}
use Rattle.borsh_tool_commands.specs.Answers.{line_of}
use Rattle.borsh_tool_commands.specs.Many.{AnswersEach, AnswersMany, AreAnswers, BeginWith, NoValueBegins, FailsBy, IsCount, IsEnded, IsUncounted, IsUnwritten, IsWriteFailure, WritesMade, LongNext, NoneNext, HasNoAnswer, StopsAtLine, StopsAtValue, WritesAnswers, count_text, most_bytes, rest_of}
use Rattle.borsh_tool_commands.specs.Printed.{printed}
use Rattle.borsh_tool_commands.specs.declared.answers.TextAnswer.{TextAnswer}
use Rattle.borsh_tool_commands.specs.Many.IsCount.{counted, stopped}

answers-more : (P : List ℕ → List ℕ → Type 0) (vs : List (List ℕ)) (out v text : List ℕ) → AreAnswers P vs out → P v text → AreAnswers P (vs ++ (v ∷ [])) (out ++ text)
answers-more P [] out v text a p = (text, [], p, ap (λ l. l ++ text) a ∙ sym (append-nil text), refl)
answers-more P (u ∷ vs) out v text a p = (a.0, a.1 ++ text, a.2, ap (λ l. l ++ text) a.3 ∙ append_assoc a.0 a.1 text, answers-more P vs a.1 v text a.4 p)

begin-more : (F : List ℕ → List ℕ → List ℕ → Type 0) (ps : List (List ℕ)) (xs left p more : List ℕ) → BeginWith F ps xs left → F p left more → BeginWith F (ps ++ (p ∷ [])) xs more
begin-more F [] xs left p more e h = (more, subst (λ l. F p l more) (sym e) h, refl)
begin-more F (q ∷ ps) xs left p more b h = (b.0, b.1, begin-more F ps b.0 left p more b.2 h)

-- ---- what a flush did

-- nothing, where nothing more was made
pub not-flushed : {W A : Type 0} {w : WriterModel W} (laws : WriterLaws W w) (a : W) {made after : List ℕ} (r : Result A Failure) → after ≡ made → WritesMade w a a made after r
not-flushed laws a r e = record { written = []; lost = []; wrote = laws.none a; split = sym e; whole = inl refl }

nothing-left : (xs ys : List ℕ) → [] ≡ xs ++ ys → xs ≡ []
nothing-left [] ys e = refl
nothing-left (x ∷ xs) ys e = absurd (cc)

module _ {W : Type 0} {w : WriterModel W} (laws : WriterLaws W w) (P : List ℕ → Result Bool Failure → Type 0) where
  -- the writer's bytes after a flush, whatever comes of it
  pub flushed : {A : Type 0} {a b c : W} {made after : List ℕ} (r : Result A Failure) (q : Result Bool Failure) (written : List ℕ) → w.wrote a b written → WritesMade w b c made after r → P (written ++ made) q → (IsUnwritten r → IsUnwritten q) → WritesAnswers P w a c after q
  flushed {a = a} {b = b} {c = c} {made = made} {after = after} r q written wrote f p g = record {
    written = written ++ f.written;
    lost = f.lost;
    wrote = laws.more a b c written f.written wrote f.wrote;
    output = subst (λ l. P l q) (ap (λ l. written ++ l) f.split ∙ sym (append_assoc written f.written (f.lost ++ after))) p;
    whole = elim f.whole [ inl e ↦ inl e | inr h ↦ inr (g h.0, h.1) ];
  }

  -- what was kept at the end is written
  pub finished : {B : Type 0} {a b c : W} {made after : List ℕ} (r : Result Bool Failure) (f : Result B Failure) (q : Result Bool Failure) → WritesAnswers P w a b made r → WritesMade w b c made after f → after ≡ []
      → (IsUnwritten f → IsUnwritten q) → (IsUnwritten r → IsUnwritten q) → ((out : List ℕ) → P out r → P out q) → WritesAnswers P w a c after q
  finished {a = a} {b = b} {c = c} {made = made} {after = after} r f q d x none g h k =
      elim d.whole [
        | inl e ↦ flushed f q d.written d.wrote x (k (d.written ++ made) (subst (λ l. P (d.written ++ (l ++ made)) r) e d.output)) g
        | inr u ↦ (let front : x.written ≡ [] = nothing-left x.written (x.lost ++ after) (sym u.1 ∙ x.split) in record {
          written = d.written ++ x.written;
          lost = d.lost;
          wrote = laws.more a b c d.written x.written d.wrote x.wrote;
          output = k _ (subst (λ l. P l r) (ap (λ l. d.written ++ (d.lost ++ l)) (u.1 ∙ sym none) ∙ ap (λ l. l ++ (d.lost ++ after)) (sym (append-nil d.written) ∙ ap (λ l. d.written ++ l) (sym front))) d.output);
          whole = inr (h u.0, none);
        })
      ]

  -- nothing was written, and all that was made is kept
  pub only-made : (a : W) (made : List ℕ) (r : Result Bool Failure) → P made r → WritesAnswers P w a a made r
  only-made a made r p = record { written = []; lost = []; wrote = laws.none a; output = p; whole = inl refl }

pub writes-as : {W : Type 0} {w : WriterModel W} {P Q : List ℕ → Result Bool Failure → Type 0} {a b : W} {made : List ℕ} {r : Result Bool Failure} → WritesAnswers P w a b made r → ((out : List ℕ) → P out r → Q out r) → WritesAnswers Q w a b made r
writes-as d k = record { written = d.written; lost = d.lost; wrote = d.wrote; output = k _ d.output; whole = d.whole }

-- what holds without a result holds with one
pub held : {A E P : Type 0} (result : Result A E) → P → OnOk result P
held (Ok a) p = p
held (Err e) p = tt

-- ---- the first pieces of a reader's bytes

-- where the bytes are known, they begin with the pieces; then come those that are ahead, and those that the reader has left
abbrev pub IsAhead : (List ℕ → List ℕ → List ℕ → Type 0) → Option (List ℕ) → Option (List ℕ) → List ℕ → List (List ℕ) → Type 0
IsAhead F None now ahead ps = Unit {0}
IsAhead F (Some xs) None ahead ps = ⊥
IsAhead F (Some xs) (Some ys) ahead ps = BeginWith F ps xs (ahead ++ ys)

module _ (F : List ℕ → List ℕ → List ℕ → Type 0) where
  pub ahead-begins : (bytes : Option (List ℕ)) → IsAhead F bytes bytes [] []
  ahead-begins None = tt
  ahead-begins (Some xs) = refl

  -- more was read
  pub ahead-read : (bytes now new : Option (List ℕ)) (ahead read : List ℕ) (ps : List (List ℕ)) → IsAhead F bytes now ahead ps → Consumes now new read → IsAhead F bytes new (ahead ++ read) ps
  ahead-read None now new ahead read ps i c = tt
  ahead-read (Some xs) None new ahead read ps i c = absurd i
  ahead-read (Some xs) (Some ys) None ahead read ps i c = absurd c
  ahead-read (Some xs) (Some ys) (Some zs) ahead read ps i c = subst (BeginWith F ps xs) (ap (λ l. ahead ++ l) c ∙ sym (append_assoc ahead read zs)) i

  -- a piece was taken
  pub ahead-taken : (bytes now : Option (List ℕ)) (ahead left p : List ℕ) (ps : List (List ℕ)) → IsAhead F bytes now ahead ps → ((more : List ℕ) → now ≡ Some more → F p (ahead ++ more) (left ++ more)) → IsAhead F bytes now left (ps ++ (p ∷ []))
  ahead-taken None now ahead left p ps i f = tt
  ahead-taken (Some xs) None ahead left p ps i f = absurd i
  ahead-taken (Some xs) (Some ys) ahead left p ps i f = begin-more F ps xs (ahead ++ ys) p (left ++ ys) i (f ys refl)

  -- nothing is left
  pub ahead-ends : (bytes now : Option (List ℕ)) (ahead : List ℕ) (ps : List (List ℕ)) → IsAhead F bytes now ahead ps → ahead ≡ [] → IsAtEnd now → IfSome bytes (λ xs. BeginWith F ps xs [])
  ahead-ends None now ahead ps i e h = tt
  ahead-ends (Some xs) None ahead ps i e h = absurd i
  ahead-ends (Some xs) (Some ys) ahead ps i e h = subst (BeginWith F ps xs) (ap (λ l. l ++ ys) e ∙ h) i

-- what is left is what is ahead, and what the reader has left
pub left-of : (F : List ℕ → List ℕ → List ℕ → Type 0) (bytes now : Option (List ℕ)) (ahead : List ℕ) (ps : List (List ℕ)) → IsAhead F bytes now ahead ps → IfSome bytes (λ xs. BeginWith F ps xs (ahead ++ rest_of now))
left-of F None now ahead ps i = tt
left-of F (Some xs) None ahead ps i = absurd i
left-of F (Some xs) (Some ys) ahead ps i = i

-- ---- one answer after another

-- what was written and what is kept are the answers to the first pieces
pub record SoFar {W : Type 0} (F : List ℕ → List ℕ → List ℕ → Type 0) (P : List ℕ → List ℕ → Type 0) (w : WriterModel W) (bytes now : Option (List ℕ)) (ahead : List ℕ) (old new : W) (made : List ℕ) : Type 0 where
  pub pieces : List (List ℕ)
  pub written : List ℕ
  pub wrote : w.wrote old new written
  pub answers : AreAnswers P pieces (written ++ made)
  pub taken : IsAhead F bytes now ahead pieces

module _ {W : Type 0} {w : WriterModel W} (laws : WriterLaws W w) (F : List ℕ → List ℕ → List ℕ → Type 0) (P : List ℕ → List ℕ → Type 0) (bytes : Option (List ℕ)) where
  pub begins : (a : W) → SoFar F P w bytes bytes [] a a []
  begins a = record { pieces = []; written = []; wrote = laws.none a; answers = refl; taken = ahead-begins F bytes }

  pub begins-at : (a : W) (now : Option (List ℕ)) (ahead made : List ℕ) → now ≡ bytes → ahead ≡ [] → made ≡ [] → SoFar F P w bytes now ahead a a made
  begins-at a now ahead made n e m =
      subst (λ k. SoFar F P w bytes k ahead a a made) (sym n) (subst (λ k. SoFar F P w bytes bytes k a a made) (sym e) (subst (λ k. SoFar F P w bytes bytes [] a a k) (sym m) (begins a)))

  -- nothing is lost by a flush before a success
  pub goes_on : {A : Type 0} {now : Option (List ℕ)} {ahead : List ℕ} {a b c : W} {made kept : List ℕ} (v : A) → SoFar F P w bytes now ahead a b made → WritesMade w b c made kept (Ok v) → SoFar F P w bytes now ahead a c kept
  goes_on {a = a} {b = b} {c = c} {made = made} {kept = kept} v s f = record {
    pieces = s.pieces;
    written = s.written ++ f.written;
    wrote = laws.more a b c s.written f.written s.wrote f.wrote;
    answers = elim f.whole [
      | inl e ↦ subst (AreAnswers P s.pieces) (ap (λ l. s.written ++ l) (f.split ∙ ap (λ l. f.written ++ (l ++ kept)) e) ∙ sym (append_assoc s.written f.written kept)) s.answers
      | inr h ↦ absurd h.0
    ];
    taken = s.taken;
  }

  -- a piece was taken of what was ahead or was read, and answered
  pub answered : {now : Option (List ℕ)} {ahead : List ℕ} {a b : W} {made : List ℕ} (new : Option (List ℕ)) (read left after p text : List ℕ) → SoFar F P w bytes now ahead a b made → Consumes now new read
      → ((more : List ℕ) → new ≡ Some more → F p ((ahead ++ read) ++ more) (left ++ more)) → P p text → after ≡ made ++ text → SoFar F P w bytes new left a b after
  answered {now = now} {ahead = ahead} {made = made} new read left after p text s c f q e = record {
    pieces = s.pieces ++ (p ∷ []);
    written = s.written;
    wrote = s.wrote;
    answers = subst (AreAnswers P (s.pieces ++ (p ∷ []))) (append_assoc s.written made text ∙ ap (λ l. s.written ++ l) (sym e)) (answers-more P s.pieces (s.written ++ made) p text s.answers q);
    taken = ahead-taken F bytes new (ahead ++ read) left p s.pieces (ahead-read F bytes now new ahead read s.pieces s.taken c) f;
  }

module _ {W : Type 0} {w : WriterModel W} (laws : WriterLaws W w) (F : List ℕ → List ℕ → List ℕ → Type 0) (P : List ℕ → List ℕ → Type 0) (S : List ℕ → Failure → Type 0) (bytes : Option (List ℕ)) where
  -- the run stops by a failure, after more was read and a flush or none
  pub stops : {A : Type 0} {now : Option (List ℕ)} {ahead : List ℕ} {a b c : W} {made kept : List ℕ} (r : Result A Failure) (x : Failure) (new : Option (List ℕ)) (read : List ℕ) → SoFar F P w bytes now ahead a b made → Consumes now new read → WritesMade w b c made kept r
      → (IsUnwritten r → IsWriteFailure x) → S ((ahead ++ read) ++ rest_of new) x → WritesAnswers (AnswersEach F P S bytes) w a c kept (Err x)
  stops {now = now} {ahead = ahead} r x new read s t f g h =
      flushed laws (AnswersEach F P S bytes) r (Err x) s.written s.wrote f (record {
        pieces = s.pieces;
        left = (ahead ++ read) ++ rest_of new;
        answers = s.answers;
        first = left-of F bytes new (ahead ++ read) s.pieces (ahead-read F bytes now new ahead read s.pieces s.taken t);
        all = tt;
        stops = h;
      }) g

  -- for a reason that needs no bytes
  pub stops-anyhow : {A : Type 0} {now : Option (List ℕ)} {ahead : List ℕ} {a b c : W} {made kept : List ℕ} (r : Result A Failure) (x : Failure) → SoFar F P w bytes now ahead a b made → WritesMade w b c made kept r → (IsUnwritten r → IsWriteFailure x) → ((left : List ℕ) → S left x)
      → WritesAnswers (AnswersEach F P S bytes) w a c kept (Err x)
  stops-anyhow {now = now} {ahead = ahead} r x s f g h = stops r x now [] s (Consumes-nil now) f g (h ((ahead ++ []) ++ rest_of now))

  -- nothing was read or made
  pub stops-first : (a : W) (made : List ℕ) (x : Failure) → made ≡ [] → ((left : List ℕ) → S left x) → WritesAnswers (AnswersEach F P S bytes) w a a made (Err x)
  stops-first a made x e h = subst (λ m. WritesAnswers (AnswersEach F P S bytes) w a a m (Err x)) (sym e) (stops-anyhow {A = Bool} (Err x) x (begins laws F P bytes a) (not-flushed laws a {made = []} {after = []} (Err x) refl) (λ u. u) h)

  -- all is answered
  pub ends : {A : Type 0} {now : Option (List ℕ)} {ahead : List ℕ} {a b c : W} {made kept : List ℕ} (v : A) (new : Option (List ℕ)) (read : List ℕ) → SoFar F P w bytes now ahead a b made → Consumes now new read → ahead ++ read ≡ [] → IsAtEnd new → WritesMade w b c made kept (Ok v)
      → WritesAnswers (AnswersEach F P S bytes) w a c kept (Ok true)
  ends {now = now} {ahead = ahead} v new read s c e h f =
      let first = ahead-ends F bytes new (ahead ++ read) s.pieces (ahead-read F bytes now new ahead read s.pieces s.taken c) e h in
      flushed laws (AnswersEach F P S bytes) (Ok v) (Ok true) s.written s.wrote f (record { pieces = s.pieces; left = []; answers = s.answers; first = first; all = (refl, refl); stops = tt }) (λ u. u)

-- a further reason to stop, of which there is none
pub other-root : {F : List ℕ → List ℕ → List ℕ → Type 0} {P : List ℕ → List ℕ → Type 0} (unread : Error → Type 0) (path : List ℕ) (l : Plan) (wanted : Wanted) (lenient : Bool) (other : Type 0) (bytes : Option (List ℕ)) (out : List ℕ) (r : Result Bool Failure)
    → AnswersEach F P (StopsAtLine unread path l wanted lenient ⊥ bytes) bytes out r → AnswersEach F P (StopsAtLine unread path l wanted lenient other bytes) bytes out r
other-root unread path l wanted lenient other bytes out (Ok v) h = record { pieces = h.pieces; left = h.left; answers = h.answers; first = h.first; all = h.all; stops = tt }
other-root unread path l wanted lenient other bytes out (Err x) h = record { pieces = h.pieces; left = h.left; answers = h.answers; first = h.first; all = tt; stops = stop-led path (λ e u. u) (λ s. elim s [ inl n ↦ absurd n | inr y ↦ inr y ]) (λ u. u) x h.stops }

-- the line that was taken is the first one, where the bytes are known
known-line : (bytes after : Option (List ℕ)) (ahead p left : List ℕ) (ps : List (List ℕ)) → IsAhead IsFirstLine bytes after ahead ps → ((more : List ℕ) → after ≡ Some more → IsFirstLine p (ahead ++ more) (left ++ more)) → IfSome bytes (λ _. IsFirstLine p (ahead ++ rest_of after) (left ++ rest_of after))
known-line None after ahead p left ps i f = tt
known-line (Some xs) None ahead p left ps i f = absurd i
known-line (Some xs) (Some ys) ahead p left ps i f = f ys refl

-- ---- no next line, and no next value

module _ {W : Type 0} {w : WriterModel W} (laws : WriterLaws W w) (P : List ℕ → List ℕ → Type 0) (unread : Error → Type 0) (path : List ℕ) (l : Plan) (bytes : Option (List ℕ)) (before after : ReaderState) {ahead : List ℕ} where
  module _ (wanted : Wanted) (lenient : Bool) (other : Type 0) where
    pub line-stops : {A : Type 0} {a b c : W} {made kept : List ℕ} (r : Result A Failure) (x : Failure) → SoFar IsFirstLine P w bytes before.bytes ahead a b made → IsStop path unread ⊥ (LongNext before after ahead) x → WritesMade w b c made kept r → (IsUnwritten r → IsWriteFailure x)
        → WritesAnswers (AnswersEach IsFirstLine P (StopsAtLine unread path l wanted lenient other bytes) bytes) w a c kept (Err x)
    line-stops r NoCommand s h f g = absurd h
    line-stops r (Unreadable p e) s h f g = absurd h
    line-stops r (NotHexadecimal p e) s h f g = absurd h
    line-stops r (NotContainer p e) s h f g = absurd h
    line-stops r (NotValue p t) s h f g = absurd h.1
    line-stops r (NotText p) s h f g = absurd h
    line-stops r TwoInputs s h f g = absurd h
    line-stops r RawOnTerminal s h f g = absurd h
    line-stops r (WrongUse e) s h f g = absurd h
    line-stops r (Unread p e) s h f g = stops-anyhow laws IsFirstLine P (StopsAtLine unread path l wanted lenient other bytes) bytes r (Unread p e) s f g (λ left. h)
    line-stops r (Unwritten e) s h f g = stops-anyhow laws IsFirstLine P (StopsAtLine unread path l wanted lenient other bytes) bytes r (Unwritten e) s f g (λ left. tt)
    line-stops r (LongLine p) s h f g = stops laws IsFirstLine P (StopsAtLine unread path l wanted lenient other bytes) bytes r (LongLine p) after.bytes h.1.read s h.1.taken f g (h.0, h.1.long)
    line-stops r (NotType p t) s h f g = absurd h
    line-stops r OutOfMemory s h f g = stops-anyhow laws IsFirstLine P (StopsAtLine unread path l wanted lenient other bytes) bytes r OutOfMemory s f g (λ left. tt)

    -- the first line has no answer
    pub first-line-stops : {A : Type 0} {a b c : W} {made kept : List ℕ} (r : Result A Failure) (x : Failure) (p left read : List ℕ) → SoFar IsFirstLine P w bytes before.bytes ahead a b made → Consumes before.bytes after.bytes read
        → ((more : List ℕ) → after.bytes ≡ Some more → IsFirstLine p ((ahead ++ read) ++ more) (left ++ more)) → IsStop path (λ _. ⊥) (HasNoAnswer l wanted lenient p) ⊥ x → WritesMade w b c made kept r → (IsUnwritten r → IsWriteFailure x)
        → WritesAnswers (AnswersEach IsFirstLine P (StopsAtLine unread path l wanted lenient other bytes) bytes) w a c kept (Err x)
    first-line-stops r NoCommand p left read s t f k h g = absurd k
    first-line-stops r (Unreadable q e) p left read s t f k h g = absurd k
    first-line-stops r (NotHexadecimal q e) p left read s t f k h g = absurd k
    first-line-stops r (NotContainer q e) p left read s t f k h g = absurd k
    first-line-stops r (NotValue q y) p left read s t f k h g = stops laws IsFirstLine P (StopsAtLine unread path l wanted lenient other bytes) bytes r (NotValue q y) after.bytes read s t h g (k.0, inr (p, left ++ rest_of after.bytes, known-line bytes after.bytes (ahead ++ read) p left s.pieces (ahead-read IsFirstLine bytes before.bytes after.bytes ahead read s.pieces s.taken t) f, k.1))
    first-line-stops r (NotText q) p left read s t f k h g = absurd k
    first-line-stops r TwoInputs p left read s t f k h g = absurd k
    first-line-stops r RawOnTerminal p left read s t f k h g = absurd k
    first-line-stops r (WrongUse e) p left read s t f k h g = absurd k
    first-line-stops r (Unread q e) p left read s t f k h g = absurd k.1
    first-line-stops r (Unwritten e) p left read s t f k h g = stops-anyhow laws IsFirstLine P (StopsAtLine unread path l wanted lenient other bytes) bytes r (Unwritten e) s h g (λ left. tt)
    first-line-stops r (LongLine q) p left read s t f k h g = absurd k.1
    first-line-stops r (NotType q y) p left read s t f k h g = absurd k
    first-line-stops r OutOfMemory p left read s t f k h g = stops-anyhow laws IsFirstLine P (StopsAtLine unread path l wanted lenient other bytes) bytes r OutOfMemory s h g (λ left. tt)

  pub value-stops : {A : Type 0} {a b c : W} {made kept : List ℕ} (r : Result A Failure) (x : Failure) → SoFar (IsFirst (definitions_of l) (root_of l)) P w bytes before.bytes ahead a b made → IsStop path unread (NoneNext (definitions_of l) (root_of l) before after ahead) ⊥ x → WritesMade w b c made kept r → (IsUnwritten r → IsWriteFailure x)
      → WritesAnswers (AnswersEach (IsFirst (definitions_of l) (root_of l)) P (StopsAtValue unread path l) bytes) w a c kept (Err x)
  value-stops r NoCommand s h f g = absurd h
  value-stops r (Unreadable p e) s h f g = absurd h
  value-stops r (NotHexadecimal p e) s h f g = absurd h
  value-stops r (NotContainer p e) s h f g = absurd h
  value-stops r (NotValue p t) s h f g = stops laws (IsFirst (definitions_of l) (root_of l)) P (StopsAtValue unread path l) bytes r (NotValue p t) after.bytes h.1.read s h.1.taken f g (h.0, elim h.1.none [ inl b ↦ inl b | inr u ↦ inr (inl u) ])
  value-stops r (NotText p) s h f g = absurd h
  value-stops r TwoInputs s h f g = absurd h
  value-stops r RawOnTerminal s h f g = absurd h
  value-stops r (WrongUse e) s h f g = absurd h
  value-stops r (Unread p e) s h f g = stops-anyhow laws (IsFirst (definitions_of l) (root_of l)) P (StopsAtValue unread path l) bytes r (Unread p e) s f g (λ left. h)
  value-stops r (Unwritten e) s h f g = stops-anyhow laws (IsFirst (definitions_of l) (root_of l)) P (StopsAtValue unread path l) bytes r (Unwritten e) s f g (λ left. tt)
  value-stops r (LongLine p) s h f g = absurd h.1
  value-stops r (NotType p t) s h f g = absurd h
  value-stops r OutOfMemory s h f g = stops-anyhow laws (IsFirst (definitions_of l) (root_of l)) P (StopsAtValue unread path l) bytes r OutOfMemory s f g (λ left. tt)

-- ---- values counted

none-left : (now : Option (List ℕ)) → IsAtEnd now → rest_of now ≡ []
none-left None h = refl
none-left (Some ys) h = h

module _ (C : List ℕ → Option Shape) (root : List ℕ) (bytes : Option (List ℕ)) where
  -- so many values were taken
  pub record CountedSoFar (now : Option (List ℕ)) (ahead : List ℕ) (n : ℕ) : Type 0 where
    pub values : List (List ℕ)
    pub number : length values ≡ n
    pub taken : IsAhead (IsFirst C root) bytes now ahead values

  pub count-begins : (now : Option (List ℕ)) (ahead : List ℕ) → now ≡ bytes → ahead ≡ [] → CountedSoFar now ahead 0
  count-begins now ahead n e = record {
    values = [];
    number = refl;
    taken = subst (λ k. IsAhead (IsFirst C root) bytes k ahead []) (sym n) (subst (λ l. IsAhead (IsFirst C root) bytes bytes l []) (sym e) (ahead-begins (IsFirst C root) bytes));
  }

  module _ {R : Type 0} (state : R → ReaderState) (old new : Records R) (n : ℕ) (s : CountedSoFar (state (source_of old)).bytes (ahead old) n) where
    -- the values and what is ahead, after more was read
    now-ahead : (read : List ℕ) → Consumes (state (source_of old)).bytes (state (source_of new)).bytes read → IsAhead (IsFirst C root) bytes (state (source_of new)).bytes (ahead old ++ read) s.values
    now-ahead read c = ahead-read (IsFirst C root) bytes (state (source_of old)).bytes (state (source_of new)).bytes (ahead old) read s.values s.taken c

    pub count-more : Advances C root state old new (Ok true) → CountedSoFar (state (source_of new)).bytes (ahead new) (n + 1)
    count-more a = record {
      values = s.values ++ (value_of new ∷ []);
      number = length_push s.values (value_of new) ∙ ap (λ k. k + 1) s.number;
      taken = ahead-taken (IsFirst C root) bytes (state (source_of new)).bytes (ahead old ++ a.read) (ahead new) (value_of new) s.values (now-ahead a.read a.lost.bytes) (λ more _. a.goes.found refl more);
    }

    pub count-ends : {yes : Bool} {out : List ℕ} → Advances C root state old new (Ok false) → (yes ≡ true) × (out ≡ line_of (count_text n)) → IsCount C root bytes yes out
    count-ends a t =
        let none = a.goes.none refl in
        counted s.values (ahead-ends (IsFirst C root) bytes (state (source_of new)).bytes (ahead old ++ a.read) s.values (now-ahead a.read a.lost.bytes) none.0 none.1) t.0 (t.1 ∙ ap (λ k. line_of (count_text k)) (sym s.number))

    -- none begins the bytes that are ahead and those that the reader has left
    stops-there : {yes : Bool} {out : List ℕ} (now : Option (List ℕ)) (ahead : List ℕ) → IsAhead (IsFirst C root) bytes now ahead s.values → NoValueBegins C root (ahead ++ rest_of now) → (yes ≡ false) × ((why : List ℕ) × (out ≡ line_of (codes "no member: " ++ why))) → IsCount C root bytes yes out
    stops-there now ahead i b t = stopped s.values (ahead ++ rest_of now) t.1.0 (left-of (IsFirst C root) bytes now ahead s.values i) b t.0 t.1.1

    pub count-none : {yes : Bool} {out : List ℕ} (o : ℕ) (f : Fault) → Advances C root state old new (Err (NoMember o f)) → (yes ≡ false) × ((why : List ℕ) × (out ≡ line_of (codes "no member: " ++ why))) → IsCount C root bytes yes out
    count-none o f a t =
        let X = ahead old ++ a.read in
        let now = (state (source_of new)).bytes in
        let none : (more : List ℕ) → HasNoFront C root (X ++ more) f = a.goes.error.1 in
        stops-there now X (now-ahead a.read a.lost.bytes) (
          (none (rest_of now)).none,
          λ e v m. (none v).none (v, [], m, ap (λ l. l ++ v) (nothing-left X (rest_of now) (sym e)) ∙ sym (append-nil v)),
        ) t

    pub count-short : {yes : Bool} {out : List ℕ} (o : ℕ) (f : Fault) → Advances C root state old new (Err (CutShort o f)) → (yes ≡ false) × ((why : List ℕ) × (out ≡ line_of (codes "no member: " ++ why))) → IsCount C root bytes yes out
    count-short o f a t =
        let X = ahead old ++ a.read in
        let now = (state (source_of new)).bytes in
        let h = a.goes.error in
        stops-there now X (now-ahead a.read a.lost.bytes)
        (subst (NoValueBegins C root) (sym (ap (λ l. X ++ l) (none-left now h.3) ∙ append-nil X)) (h.1.none, λ e. absurd (h.2 e))) t

    -- the answer where the bytes stop being values
    pub count-ended : (path : List ℕ) (e : RecordError) (r : Result TextAnswer Failure) → Advances C root state old new (Err e) → IsEnded path e r → IfOk r (λ a. IsCount C root bytes a.is_yes (printed a.text))
    count-ended path (NoMember o f) (Ok v) a h = count-none o f a (h.1, h.2)
    count-ended path (CutShort o f) (Ok v) a h = count-short o f a (h.1, h.2)
    count-ended path (TooLong o) (Ok v) a h = absurd h.0
    count-ended path EmptyValue (Ok v) a h = absurd h.0
    count-ended path (Ambiguous x) (Ok v) a h = absurd h.0
    count-ended path (Reader e) (Ok v) a h = absurd h.0
    count-ended path NoRecordMemory (Ok v) a h = absurd h.0
    count-ended path e (Err x) a h = tt

    -- and why there is none
    pub count-fails : (path : List ℕ) (e : RecordError) (r : Result TextAnswer Failure) → old.limit ≡ most_bytes → Advances C root state old new (Err e) → IsEnded path e r
        → IfErr r (IsStop path (FailsBy state) ((values : List (List ℕ)) × (left : List ℕ) × IfSome bytes (λ xs. BeginWith (IsFirst C root) values xs left) × IsUncounted C root left) ⊥)
    count-fails path e (Ok v) k a h = tt
    count-fails path e (Err x) k a h =
        let X = ahead old ++ a.read in
        let rest = rest_of (state (source_of new)).bytes in
        let ended = IsAtEnd (state (source_of new)).bytes in
        let unread = IsUnread (state (source_of old)) (state (source_of new)) in
        stop-led path (λ r q. (source_of old, source_of new, subst (λ e. IsRecordError C root X old.next old.limit ended unread e) q a.goes.error))
        (λ v. (s.values, X ++ rest, left-of (IsFirst C root) bytes (state (source_of new)).bytes X s.values (now-ahead a.read a.lost.bytes), uncounted C root X rest old.next old.limit ended unread e k a.goes.error v.0 v.1)) (λ u. u) x h

-- ---- each command

each-fails : {F : List ℕ → List ℕ → List ℕ → Type 0} {P : List ℕ → List ℕ → Type 0} {S : List ℕ → Failure → Type 0} {bytes : Option (List ℕ)} {out : List ℕ} {r : Result Bool Failure} (x : Failure) → ((left : List ℕ) → S left x) → AnswersEach F P S bytes out r → AnswersEach F P S bytes out (Err x)
each-fails x s h = record { pieces = h.pieces; left = h.left; answers = h.answers; first = h.first; all = tt; stops = s h.left }

-- an output that goes with a result goes with a failure of the writer
pub many-fails : (a : Action) (f : Form) (strict : Bool) (unread : Error → Type 0) (path : List ℕ) (l : Plan) (bytes : Option (List ℕ)) (out : List ℕ) (r : Result Bool Failure) (x : Failure) → IsWriteFailure x → AnswersMany a f strict unread path l bytes out r → AnswersMany a f strict unread path l bytes out (Err x)
many-fails Decode AsRecords strict unread path l bytes out r x u h = each-fails x (λ left. stops-unwritten _ _ _ _ x u) h
many-fails Decode AsLines strict unread path l bytes out r x u h = each-fails x (λ left. stops-unwritten _ _ _ _ x u) h
many-fails Encode AsRecords strict unread path l bytes out r x u h = (each-fails x (λ left. stops-unwritten _ _ _ _ x u) h.0, tt)
many-fails Encode AsLines strict unread path l bytes out r x u h = each-fails x (λ left. stops-unwritten _ _ _ _ x u) h
many-fails AskMember f strict unread path l bytes out r x u h = stops-unwritten _ _ _ _ x u
many-fails Show f strict unread path l bytes out r x u h = inl u
