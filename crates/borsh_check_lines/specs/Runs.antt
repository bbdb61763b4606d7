-- What a run has done.
use Rattle.std.specs.Prelude.{◌≡◌, ℕ, ◌≤◌, ◌⊎◌, List, [], ◌∷◌, ◌++◌, codes, map, cond, ◌==◌, Option, None, Some, length, Result, OnOk, IfErr}
use Rattle.std.specs.Io.KnownBytes.{Consumes, IsAtEnd}
use Rattle.borsh.specs.Errors.{error_kind, error_text, display_text}
use Rattle.borsh.specs.Stream.{ReaderState, CountedUp}
use Rattle.borsh.specs.Sink.{WriterModel, WroteBytes, WriteAllFailure, NotWrittenWhole}
use Rattle.borsh_io.specs.declared.error.Error.{Error}
use Rattle.borsh_io.specs.declared.error.ErrorKind.{ErrorKind}
use Rattle.borsh_io.specs.declared.error.ErrorKind.TheVariants.{OutOfMemory}
use Rattle.borsh_walks.specs.Counts.{add_saturating}
use Rattle.borsh_check_lines.specs.Lines.{lines_of, ended_lines, OutputOf}

-- the bytes of a reader that knows them
abbrev pub known_bytes : Option (List ℕ) → List ℕ
known_bytes None = []
known_bytes (Some xs) = xs

-- a run came to its end: all bytes were taken without a fault, and no line and no answer is left
pub record RanToEnd {W : Type 0} (w : WriterModel W) (before after : ReaderState) (old new : W) (unanswered : List (List ℕ)) (unwritten : List ℕ) : Type 0 where
  pub at_end : IsAtEnd after.bytes
  pub faults : after.faults ≡ before.faults
  pub writer_faults : (w.sink new).faults ≡ (w.sink old).faults
  pub all_answered : unanswered ≡ []
  pub all_written : unwritten ≡ []

-- why a run stopped by an error of this kind
pub data WhyStopped {W : Type 0} (w : WriterModel W) (before after : ReaderState) (old new : W) (taken : List ℕ) (answered : List (List ℕ)) (unwritten : List ℕ) (kind : ErrorKind) : Type 0 where
  -- an allocation failed: all answers that were made are written
  no_memory : kind ≡ OutOfMemory → after.faults ≡ before.faults → (w.sink new).faults ≡ (w.sink old).faults → unwritten ≡ [] → WhyStopped w before after old new taken answered unwritten kind
  -- the reader failed: the lines whose line feed was taken are answered, and all answers that were made are written
  reader_failed : CountedUp before.faults after.faults → (w.sink new).faults ≡ (w.sink old).faults → answered ≡ ended_lines taken → unwritten ≡ [] → WhyStopped w before after old new taken answered unwritten kind
  -- the writer was full, or failed
  writer_stopped : after.faults ≡ before.faults → WriteAllFailure w old new kind → WhyStopped w before after old new taken answered unwritten kind

-- what a run did
pub record Runs {W : Type 0} (answers : List ℕ → List ℕ → Type 0) (w : WriterModel W) (before after : ReaderState) (old new : W) (result : Result (Unit {0}) Error) : Type 0 where
  -- the bytes that were taken from the reader
  pub taken : List ℕ
  -- the reader lost these bytes, after perhaps interruptions, and its mode is the same
  pub bytes : Consumes before.bytes after.bytes taken
  pub interruptions : after.interruptions ≤ before.interruptions
  pub reads_left : after.reads_left ≤ before.reads_left
  pub strict_order : after.strict_order ≡ before.strict_order
  -- the lines that were answered
  pub answered : List (List ℕ)
  -- the other lines of the input
  pub unanswered : List (List ℕ)
  -- those that were answered are the first ones
  pub first : lines_of (taken ++ known_bytes after.bytes) ≡ answered ++ unanswered
  -- the bytes that were written
  pub written : List ℕ
  -- the bytes of answers that were made and not written
  pub unwritten : List ℕ
  -- together these are an answer and a line feed for each line that was answered
  pub output : OutputOf answers answered (written ++ unwritten)
  -- the writer took the bytes that were written, after perhaps interruptions
  pub wrote : w.wrote old new written
  pub writer_interruptions : (w.sink new).interruptions ≤ (w.sink old).interruptions
  -- after a success nothing is left to do
  pub ran : OnOk result (RanToEnd w before after old new unanswered unwritten)
  -- after an error, why the run stopped
  pub stopped : IfErr result (λ e. WhyStopped w before after old new taken answered unwritten (error_kind e))

-- what a run did, by a count of the lines that were answered: it rose by their number
pub record RunsCounted {W : Type 0} (answers : List ℕ → List ℕ → Type 0) (w : WriterModel W) (before after : ReaderState) (old new : W) (old_count new_count : ℕ) (result : Result (Unit {0}) Error) : Type 0 where
  pub runs : Runs answers w before after old new result
  pub counted : new_count ≡ add_saturating old_count (length runs.answered)

-- ---- how a run ends

-- with a space for each line feed
abbrev pub spaced : List ℕ → List ℕ
spaced text = map (λ b. cond (b == 10) 32 b) text

-- the line that has an error's text
abbrev pub error_line : Error → List ℕ
error_line e = codes "borsh_check: " ++ (spaced (display_text (error_kind e) (error_text e)) ++ 10 ∷ [])

-- the bytes were written, or a beginning of them before the writer was full or failed
abbrev pub Told : {W : Type 0} → WriterModel W → W → W → List ℕ → Type 0
Told w old new bytes = WroteBytes w old new bytes ⊎ ((kind : ErrorKind) × NotWrittenWhole w old new bytes kind)
