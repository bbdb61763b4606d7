-- What a writer means, and what a write does to it.
use Rattle.std.specs.Prelude.{◌≡◌, ◌≢◌, ℕ, ◌<◌, ◌≤◌, ◌⊎◌, Bool, true, false, ◌==◌, IsTrue, List, [], ◌++◌, length, take, drop, Result, IfOk, OnOk, IfErr}
use Rattle.borsh_io.specs.declared.error.Error.{Error}
use Rattle.borsh_io.specs.declared.error.ErrorKind.{ErrorKind}
use Rattle.borsh_io.specs.declared.error.ErrorKind.TheVariants.{WriteZero, OutOfMemory, Interrupted}
use Rattle.borsh_io.specs.Errors.{error_kind}
use Rattle.borsh_io.specs.Stream.{CountedUp}

-- a writer's counts
pub record WriterState : Type 0 where
  -- how often it has failed
  pub faults : ℕ
  -- how often it may still be interrupted
  pub interruptions : ℕ
  -- whether it has no room at all
  pub full : Bool

-- what writing into a W means
pub record WriterModel (W : Type 0) : Type 1 where
  -- these bytes were written between two states
  pub wrote : W → W → List ℕ → Type 0
  -- a state's counts
  pub sink : W → WriterState
  -- writing may allocate
  pub allocates : Bool

-- no bytes were written between a state and itself, and those of two writes in a row are joined
pub record WriterLaws (W : Type 0) (w : WriterModel W) : Type 0 where
  pub none : (a : W) → w.wrote a a []
  pub more : (a b c : W) (x y : List ℕ) → w.wrote a b x → w.wrote b c y → w.wrote a c (x ++ y)

-- these bytes were written, perhaps after interruptions, and the count of faults is unchanged
pub record WroteBytes {W : Type 0} (w : WriterModel W) (before after : W) (bytes : List ℕ) : Type 0 where
  pub wrote : w.wrote before after bytes
  pub faults : (w.sink after).faults ≡ (w.sink before).faults
  pub interruptions : (w.sink after).interruptions ≤ (w.sink before).interruptions

-- a write was interrupted: nothing was written, and the number of interruptions fell
pub record WriteInterrupted {W : Type 0} (w : WriterModel W) (before after : W) : Type 0 where
  pub wrote : w.wrote before after []
  pub faults : (w.sink after).faults ≡ (w.sink before).faults
  pub interruptions : (w.sink after).interruptions < (w.sink before).interruptions

-- an allocation of a writer that allocates failed, or the count of faults rose
abbrev pub WriteFault : {W : Type 0} → WriterModel W → W → W → ErrorKind → Type 0
WriteFault w before after kind =
    ((kind ≡ OutOfMemory) × IsTrue w.allocates × ((w.sink after).faults ≡ (w.sink before).faults))
    ⊎ CountedUp (w.sink before).faults (w.sink after).faults

-- a write failed: nothing was written
pub record WriteFailed {W : Type 0} (w : WriterModel W) (before after : W) (kind : ErrorKind) : Type 0 where
  pub wrote : w.wrote before after []
  pub interruptions : (w.sink after).interruptions ≡ (w.sink before).interruptions
  pub cause : WriteFault w before after kind

-- a writer failed, after perhaps interruptions: nothing was written
pub record WriteFailedAfterRetries {W : Type 0} (w : WriterModel W) (before after : W) (kind : ErrorKind) : Type 0 where
  pub wrote : w.wrote before after []
  pub interruptions : (w.sink after).interruptions ≤ (w.sink before).interruptions
  pub cause : WriteFault w before after kind

-- the writer was full, or it failed
abbrev pub WriteAllFailure : {W : Type 0} → WriterModel W → W → W → ErrorKind → Type 0
WriteAllFailure w before after kind =
    ((kind ≡ WriteZero) × IsTrue (w.sink after).full × ((w.sink after).faults ≡ (w.sink before).faults))
    ⊎ WriteFault w before after kind

-- only a beginning of the bytes was written, since the writer was full or failed
pub record NotWrittenWhole {W : Type 0} (w : WriterModel W) (before after : W) (bytes : List ℕ) (kind : ErrorKind) : Type 0 where
  pub front : List ℕ
  pub rest : List ℕ
  pub split : bytes ≡ front ++ rest
  pub left : 0 < length rest
  pub wrote : w.wrote before after front
  pub interruptions : (w.sink after).interruptions ≤ (w.sink before).interruptions
  pub cause : WriteAllFailure w before after kind

-- a writer with no counts
abbrev pub no_faults : Bool → WriterState
no_faults full = record { faults = 0; interruptions = 0; full = full }

-- a writer that hands on to another one
abbrev pub contramap_writer : {V W : Type 0} → (V → W) → WriterModel W → WriterModel V
contramap_writer inner w = record {
  wrote = λ a b xs. w.wrote (inner a) (inner b) xs;
  sink = λ a. w.sink (inner a);
  allocates = w.allocates;
}

-- a writer whose bytes go to the end of a list
abbrev pub appending : {W : Type 0} → (W → List ℕ) → WriterModel W
appending items = record {
  wrote = λ a b xs. items b ≡ items a ++ xs;
  sink = λ _. no_faults false;
  allocates = true;
}

-- a writer whose bytes go over the front of a list, of which the rest is left
abbrev pub overwriting : {W : Type 0} → (W → List ℕ) → WriterModel W
overwriting room = record {
  wrote = λ a b xs. (length xs ≤ length (room a)) × (room b ≡ drop (length xs) (room a));
  sink = λ a. no_faults (length (room a) == 0);
  allocates = false;
}

-- ---- the outcome of a call

-- the outcome of one write of a buffer
pub record WritesSome {W : Type 0} (w : WriterModel W) (old new : W) (buf : List ℕ) (result : Result ℕ Error) : Type 0 where
  -- `Ok(n)`: the first n bytes of the buffer were written
  pub bound : IfOk result (λ n. n ≤ length buf)
  pub writes : IfOk result (λ n. WroteBytes w old new (take n buf))
  pub uninterrupted : OnOk result ((w.sink new).interruptions ≡ (w.sink old).interruptions)
  -- none only where the writer is full, or of an empty buffer
  pub some : IfOk result (λ n. n ≡ 0 → 0 < length buf → IsTrue (w.sink new).full)
  -- `Err` of kind `Interrupted`: nothing was written, and the call may be made again
  pub interrupted : IfErr result (λ e. error_kind e ≡ Interrupted → WriteInterrupted w old new)
  -- any other `Err`: nothing was written, and the writer or one of its allocations failed
  pub failed : IfErr result (λ e. error_kind e ≢ Interrupted → WriteFailed w old new (error_kind e))

-- the outcome of a flush, which adds no bytes
pub record Flushes {W : Type 0} (w : WriterModel W) (old new : W) (result : Result (Unit {0}) Error) : Type 0 where
  pub writes : OnOk result (WroteBytes w old new [])
  pub uninterrupted : OnOk result ((w.sink new).interruptions ≡ (w.sink old).interruptions)
  pub interrupted : IfErr result (λ e. error_kind e ≡ Interrupted → WriteInterrupted w old new)
  pub failed : IfErr result (λ e. error_kind e ≢ Interrupted → WriteFailed w old new (error_kind e))

-- the outcome of flushes that go on after interruptions
pub record FlushesRetrying {W : Type 0} (w : WriterModel W) (old new : W) (result : Result (Unit {0}) Error) : Type 0 where
  pub writes : OnOk result (WroteBytes w old new [])
  -- an interruption is never returned
  pub retried : IfErr result (λ e. error_kind e ≢ Interrupted)
  pub failed : IfErr result (λ e. WriteFailedAfterRetries w old new (error_kind e))

-- the outcome of a call that is to write the whole buffer
pub record WritesAll {W : Type 0} (w : WriterModel W) (old new : W) (buf : List ℕ) (result : Result (Unit {0}) Error) : Type 0 where
  -- `Ok`: all of it was written
  pub writes : OnOk result (WroteBytes w old new buf)
  -- `Err`: never an interruption; a beginning of the buffer was written, and not all of it
  pub retried : IfErr result (λ e. error_kind e ≢ Interrupted)
  pub refused : IfErr result (λ e. NotWrittenWhole w old new buf (error_kind e))
