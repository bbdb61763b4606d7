-- The adapters for std's readers and writers.
use Rattle.std.specs.Prelude.{◌≡◌, ℕ, ◌<◌, ◌-◌, ◌^◌, ◌⊎◌, true, false, List, Option, None, Some}
use Rattle.std.specs.Io.KnownBytes.{Appends}
use Rattle.std.proofs.KnownBytes.{Appends-nil, Appends-trans}
use Rattle.std.specs.declared.io.ErrorKind.{ErrorKind as StdKind}
use Rattle.std.specs.declared.io.ErrorKind.TheVariants as Std
use Rattle.borsh_io.specs.declared.error.Error.{Error}
use Rattle.borsh_io.specs.declared.error.ErrorKind.{ErrorKind}
use Rattle.borsh_io.specs.Errors.{error_kind, error_text}
use Rattle.borsh_io.specs.declared.error.ErrorKind.TheVariants.{NotFound, PermissionDenied, ConnectionRefused, ConnectionReset, ConnectionAborted, NotConnected, AddrInUse, AddrNotAvailable, BrokenPipe, AlreadyExists, WouldBlock, InvalidInput, InvalidData, TimedOut, WriteZero, Interrupted, Other, UnexpectedEof, OutOfMemory}
use Rattle.borsh_io.specs.declared.adapters.Counts.{Counts}
use Rattle.borsh_io.specs.declared.adapters.StdReader.{StdReader}
use Rattle.borsh_io.specs.declared.adapters.StdWriter.{StdWriter}
use Rattle.borsh_io.specs.Stream.{ReaderState, CountedUp}
use Rattle.borsh_io.specs.Sink.{WriterModel, WriterLaws, WriterState}

-- the kind of the same name, or `Other`
abbrev pub kind_of_std : StdKind → ErrorKind
kind_of_std Std.NotFound = NotFound
kind_of_std Std.PermissionDenied = PermissionDenied
kind_of_std Std.ConnectionRefused = ConnectionRefused
kind_of_std Std.ConnectionReset = ConnectionReset
kind_of_std Std.ConnectionAborted = ConnectionAborted
kind_of_std Std.NotConnected = NotConnected
kind_of_std Std.AddrInUse = AddrInUse
kind_of_std Std.AddrNotAvailable = AddrNotAvailable
kind_of_std Std.BrokenPipe = BrokenPipe
kind_of_std Std.AlreadyExists = AlreadyExists
kind_of_std Std.WouldBlock = WouldBlock
kind_of_std Std.InvalidInput = InvalidInput
kind_of_std Std.InvalidData = InvalidData
kind_of_std Std.TimedOut = TimedOut
kind_of_std Std.WriteZero = WriteZero
kind_of_std Std.Interrupted = Interrupted
kind_of_std Std.UnexpectedEof = UnexpectedEof
kind_of_std Std.OutOfMemory = OutOfMemory
kind_of_std _ = Other

-- an interruption was passed on
pub record CountsInterrupted (before after : Counts) : Type 0 where
  pub interruptions : after.interruptions < before.interruptions
  pub faults : after.faults ≡ before.faults
  pub last_failure : after.last_failure ≡ before.last_failure

-- a fault of this kind was counted
pub record CountsFailed (before after : Counts) (kind : ErrorKind) : Type 0 where
  pub interruptions : after.interruptions ≡ before.interruptions
  pub faults : CountedUp before.faults after.faults
  pub last_failure : after.last_failure ≡ Some kind

-- the stream inside
abbrev pub inner_of_reader : {R : Type 0} → StdReader R → R
inner_of_reader s = s.inner

abbrev pub inner_of_writer : {W : Type 0} → StdWriter W → W
inner_of_writer s = s.inner

-- the state of the adapter of a std reader
abbrev pub reader_stream : {R : Type 0} → (R → Option (List ℕ)) → StdReader R → ReaderState
reader_stream remaining s = record { bytes = remaining s.inner; faults = s.counts.faults; last_failure = s.counts.last_failure; interruptions = s.counts.interruptions; reads_left = s.reads_left; strict_order = true }

-- what writing into the adapter of a std writer means: the inner writer took the bytes
abbrev pub device_writing : {W : Type 0} → (W → Option (List ℕ)) → WriterModel (StdWriter W)
device_writing contents = record {
  wrote = λ a b xs. Appends (contents a.inner) (contents b.inner) xs;
  sink = λ a. record { faults = a.counts.faults; interruptions = a.counts.interruptions; full = false };
  allocates = false;
}

pub device-laws : {W : Type 0} (contents : W → Option (List ℕ)) → WriterLaws (StdWriter W) (device_writing contents)
device-laws contents = record {
  none = λ a. Appends-nil (contents a.inner);
  more = λ a b c x y p q. Appends-trans _ _ _ x y p q;
}

-- the state of a reader that was just made over these bytes to come
abbrev pub first_reader_state : Option (List ℕ) → ℕ → ReaderState
first_reader_state bytes interruptions = record { bytes = bytes; faults = 0; last_failure = None; interruptions = interruptions; reads_left = 2 ^ 64 - 1; strict_order = true }

-- the counts of a writer that was just made
abbrev pub first_writer_state : ℕ → WriterState
first_writer_state interruptions = record { faults = 0; interruptions = interruptions; full = false }

-- the error has no text, unless its kind is `Other`
abbrev pub OnlyOtherHasText : Error → Type 0
OnlyOtherHasText e = (error_kind e ≡ Other) ⊎ (error_text e ≡ None)

-- the error has no text, unless its kind is `Other` or `WriteZero`
abbrev pub OnlyOtherOrFullHasText : Error → Type 0
OnlyOtherOrFullHasText e = (error_kind e ≡ Other) ⊎ ((error_kind e ≡ WriteZero) ⊎ (error_text e ≡ None))
