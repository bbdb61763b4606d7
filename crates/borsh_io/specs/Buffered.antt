-- A reader, and bytes of it that are held until they are taken.
use Rattle.std.specs.Prelude.{◌≡◌, ℕ, ◌+◌, ◌*◌, ◌<◌, ◌≤◌, ◌⊎◌, List, ◌++◌, length, take, drop, Result, IfOk, OnOk, IfErr}
use Rattle.std.specs.Io.KnownBytes.{Consumes, IsAtEnd}
use Rattle.borsh_io.specs.{declared.buffered.Buffered.Buffered, declared.error.Error.Error, declared.error.ErrorKind.TheVariants.OutOfMemory, Errors.error_kind, Stream.ReaderState, Stream.CountedUp}

abbrev pub reader_of : {R : Type 0} → Buffered R → R
reader_of b = b.reader

-- the bytes that were read and not yet taken
abbrev pub held : {R : Type 0} → Buffered R → List ℕ
held b = drop b.end b.buffer.items

-- the bytes that were taken last
abbrev pub piece : {R : Type 0} → Buffered R → List ℕ
piece b = drop b.start (take b.end b.buffer.items)

-- the first n of the bytes that are held were taken
pub record TakesHeld {R : Type 0} (old new : Buffered R) (n : ℕ) : Type 0 where
  pub piece : piece new ≡ take n (held old)
  pub held : held new ≡ drop n (held old)
  pub reader : reader_of new ≡ reader_of old

-- how many bytes a read gives at most
abbrev pub most_at_once : ℕ
most_at_once = 65536

-- these bytes were lost by a reader, after perhaps interruptions
pub record Lost (before after : ReaderState) (lost : List ℕ) : Type 0 where
  pub bounded : length lost + most_at_once * after.reads_left ≤ most_at_once * before.reads_left
  pub bytes : Consumes before.bytes after.bytes lost
  pub interruptions : after.interruptions ≤ before.interruptions
  pub reads_left : after.reads_left ≤ before.reads_left
  pub strict_order : after.strict_order ≡ before.strict_order

-- why no more was read: an allocation failed, or the reader did
abbrev pub IsUnread : ReaderState → ReaderState → Error → Type 0
IsUnread before after e = ((error_kind e ≡ OutOfMemory) × (after.faults ≡ before.faults)) ⊎ CountedUp before.faults after.faults

-- the outcome of a read behind the bytes that are held: n more are held, none only at the end
pub record ReadsMore {R : Type 0} (state : R → ReaderState) (old new : Buffered R) (result : Result ℕ Error) : Type 0 where
  pub read : List ℕ
  pub held : held new ≡ held old ++ read
  pub lost : Lost (state (reader_of old)) (state (reader_of new)) read
  pub number : IfOk result (λ n. n ≡ length read)
  pub faults : OnOk result ((state (reader_of new)).faults ≡ (state (reader_of old)).faults)
  pub fewer : IfOk result (λ n. 0 < n → (state (reader_of new)).reads_left < (state (reader_of old)).reads_left)
  pub some : IfOk result (λ n. n ≡ 0 → IsAtEnd (state (reader_of new)).bytes)
  pub failed : IfErr result (λ e. IsUnread (state (reader_of old)) (state (reader_of new)) e)
