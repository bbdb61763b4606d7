-- The state of a reader, and what a read does to it.
use Rattle.std.specs.Prelude.{◌≡◌, ◌≢◌, ℕ, ◌+◌, ◌-◌, ◌^◌, ◌<◌, ◌≤◌, ◌⊎◌, Bool, List, ◌++◌, length, take, Option, Some, None, IfSome, MatchOption, Result, IfOk, OnOk, IfErr, OnErr, true, false}
use Rattle.std.specs.Io.KnownBytes.{Consumes, Keeps, IsAtEnd}
use Rattle.borsh_io.specs.declared.error.Error.{Error}
use Rattle.borsh_io.specs.declared.error.ErrorKind.{ErrorKind}
use Rattle.borsh_io.specs.declared.error.ErrorKind.TheVariants.{UnexpectedEof, Interrupted}
use Rattle.borsh_io.specs.Errors.{error_kind}

-- a reader's state
pub record ReaderState : Type 0 where
  -- the bytes still to come, where the reader knows them
  pub bytes : Option (List ℕ)
  -- how often it has failed
  pub faults : ℕ
  -- the kind of the last failure, if it has failed
  pub last_failure : Option ErrorKind
  -- how often it may still be interrupted
  pub interruptions : ℕ
  -- how many reads may still take bytes, so that a loop over any reader ends
  pub reads_left : ℕ
  -- whether keys must be in ascending order
  pub strict_order : Bool

-- a count went up by one; at the greatest value of a `u64` it stays, and counts as risen
abbrev pub CountedUp : ℕ → ℕ → Type 0
CountedUp before after = (before < 2 ^ 64 - 1 → after ≡ before + 1) × (2 ^ 64 - 1 ≤ before → after ≡ before)

-- `front` was taken from the bytes to come, perhaps after interruptions, and no failure was counted
pub record Consumed (before after : ReaderState) (front : List ℕ) : Type 0 where
  pub bytes : Consumes before.bytes after.bytes front
  pub faults : after.faults ≡ before.faults
  pub last_failure : after.last_failure ≡ before.last_failure
  pub interruptions : after.interruptions ≤ before.interruptions
  pub reads_left : after.reads_left ≤ before.reads_left
  pub strict_order : after.strict_order ≡ before.strict_order

-- a read was interrupted: nothing was taken, and the number of interruptions fell
pub record ReadInterrupted (before after : ReaderState) : Type 0 where
  pub bytes : Keeps before.bytes after.bytes
  pub faults : after.faults ≡ before.faults
  pub last_failure : after.last_failure ≡ before.last_failure
  pub interruptions : after.interruptions < before.interruptions
  pub reads_left : after.reads_left ≤ before.reads_left
  pub strict_order : after.strict_order ≡ before.strict_order

-- a read failed with an error of this kind: nothing was taken, and the failure was counted
pub record ReadFailed (before after : ReaderState) (kind : ErrorKind) : Type 0 where
  pub bytes : Keeps before.bytes after.bytes
  pub faults : CountedUp before.faults after.faults
  pub last_failure : after.last_failure ≡ Some kind
  pub interruptions : after.interruptions ≡ before.interruptions
  pub reads_left : after.reads_left ≤ before.reads_left
  pub strict_order : after.strict_order ≡ before.strict_order

-- a reader failed, after perhaps interruptions, with an error of this kind: nothing was taken, and the failure was counted
pub record ReadFailedAfterRetries (before after : ReaderState) (kind : ErrorKind) : Type 0 where
  pub bytes : Keeps before.bytes after.bytes
  pub faults : CountedUp before.faults after.faults
  pub last_failure : after.last_failure ≡ Some kind
  pub interruptions : after.interruptions ≤ before.interruptions
  pub reads_left : after.reads_left ≤ before.reads_left
  pub strict_order : after.strict_order ≡ before.strict_order

-- a prefix of the bytes to come was taken, so that a tail of them is left; perhaps with interruptions
pub record ConsumedSome (before after : ReaderState) : Type 0 where
  pub front : List ℕ
  pub bytes : Consumes before.bytes after.bytes front
  pub interruptions : after.interruptions ≤ before.interruptions
  pub reads_left : after.reads_left ≤ before.reads_left
  pub strict_order : after.strict_order ≡ before.strict_order

-- fewer than n bytes are to come, where the reader knows them
abbrev pub HasFewerThan : ReaderState → ℕ → Type 0
HasFewerThan s n = IfSome s.bytes (λ xs. length xs < n)

-- the reader knows the bytes to come, and there are no more than n
abbrev pub HasAtMost : ReaderState → ℕ → Type 0
HasAtMost s n = MatchOption s.bytes ⊥ (λ xs. length xs ≤ n)

-- fewer than n bytes were taken, where the reader knows them
abbrev pub TookFewerThan : ReaderState → ReaderState → ℕ → Type 0
TookFewerThan before after n = (taken left : List ℕ) → before.bytes ≡ Some (taken ++ left) → after.bytes ≡ Some left → length taken < n

-- why n bytes could not be read, by an error of this kind: fewer were to come, or the reader failed before the last of them
abbrev pub ReadExactFailure : ReaderState → ReaderState → ℕ → ErrorKind → Type 0
ReadExactFailure before after n kind =
    ((kind ≡ UnexpectedEof) × HasFewerThan before n × (after.faults ≡ before.faults) × (after.last_failure ≡ before.last_failure))
    ⊎ (CountedUp before.faults after.faults × TookFewerThan before after n × (after.last_failure ≡ Some kind))

-- the state of a reader over bytes in memory, which never fails and is never interrupted
abbrev pub slice_state : List ℕ → ReaderState
slice_state xs = record { bytes = Some xs; faults = 0; last_failure = None; interruptions = 0; reads_left = length xs; strict_order = true }

-- the same reader with keys in any order
abbrev pub unordered : ReaderState → ReaderState
unordered s = record s { strict_order = false }

-- ---- the outcome of a call; `state` says what is known of a reader

-- the outcome of one read into a buffer, which then holds `buf`
pub record ReadsSome {R : Type 0} (state : R → ReaderState) (old new : R) (buf : List ℕ) (result : Result ℕ Error) : Type 0 where
  -- `Ok(n)`: n bytes, no more than the buffer has, are at its front
  pub bound : IfOk result (λ n. n ≤ length buf)
  -- and they are the next bytes of the reader
  pub takes : IfOk result (λ n. Consumed (state old) (state new) (take n buf))
  pub uninterrupted : OnOk result ((state new).interruptions ≡ (state old).interruptions)
  pub fewer : IfOk result (λ n. 0 < n → (state new).reads_left < (state old).reads_left)
  -- none only at the end, or into an empty buffer
  pub some : IfOk result (λ n. n ≡ 0 → 0 < length buf → IsAtEnd (state new).bytes)
  -- `Err` of kind `Interrupted`: nothing was taken, and the call may be made again
  pub interrupted : IfErr result (λ e. error_kind e ≡ Interrupted → ReadInterrupted (state old) (state new))
  -- any other `Err`: nothing was taken, and the reader failed
  pub failed : IfErr result (λ e. error_kind e ≢ Interrupted → ReadFailed (state old) (state new) (error_kind e))

-- the outcome of reads that go on after interruptions, until one takes bytes into a buffer, which then holds `buf`
pub record ReadsSomeRetrying {R : Type 0} (state : R → ReaderState) (old new : R) (buf : List ℕ) (result : Result ℕ Error) : Type 0 where
  pub bound : IfOk result (λ n. n ≤ length buf)
  pub takes : IfOk result (λ n. Consumed (state old) (state new) (take n buf))
  pub fewer : IfOk result (λ n. 0 < n → (state new).reads_left < (state old).reads_left)
  pub some : IfOk result (λ n. n ≡ 0 → 0 < length buf → IsAtEnd (state new).bytes)
  -- an interruption is never returned
  pub retried : IfErr result (λ e. error_kind e ≢ Interrupted)
  pub failed : IfErr result (λ e. ReadFailedAfterRetries (state old) (state new) (error_kind e))

-- the outcome of a call that is to fill a buffer that held `before` and then holds `after`
pub record ReadsExactly {R : Type 0} (state : R → ReaderState) (old new : R) (before after : List ℕ) (result : Result (Unit {0}) Error) : Type 0 where
  -- `Ok`: the buffer holds the next bytes
  pub takes : OnOk result (Consumed (state old) (state new) after)
  -- `Err`: never an interruption; fewer bytes were to come, or the reader failed; a tail of them is left
  pub retried : IfErr result (λ e. error_kind e ≢ Interrupted)
  pub cause : IfErr result (λ e. ReadExactFailure (state old) (state new) (length before) (error_kind e))
  pub tail : OnErr result (ConsumedSome (state old) (state new))
