-- What a call that writes a value gives to its writer, and why it fails.
use Rattle.std.specs.Prelude.{◌≡◌, ◌≢◌, ℕ, ◌<◌, ◌≤◌, Bool, true, ◌||◌, IsTrue, List, ◌++◌, length, Option, Some, None, IfSome, take, Result, OnOk, IfOk, IfErr, Vec}
use Rattle.std.specs.Global.{Global}
use Rattle.borsh_io.specs.declared.error.Error.{Error}
use Rattle.borsh_io.specs.declared.error.ErrorKind.{ErrorKind}
use Rattle.borsh_io.specs.declared.error.ErrorKind.TheVariants.{InvalidData, OutOfMemory, WriteZero, Interrupted}
use Rattle.borsh_io.specs.Errors.{error_kind}
use Rattle.borsh_io.specs.Stream.{CountedUp}
use Rattle.borsh_io.specs.Sink.{WriterModel, WroteBytes}
use Rattle.borsh_codec.specs.Codec.{Codec}
use Rattle.borsh_codec.specs.Untouched.{Untouched}

-- all of an encoding was written
pub record Written {W : Type 0} (w : WriterModel W) (old new : W) (encoding : Option (List ℕ)) : Type 0 where
  pub bytes : List ℕ
  pub is : encoding ≡ Some bytes
  pub writes : WroteBytes w old new bytes

-- only the beginning `front` of the encoding was written: why, by an error of this kind
pub data WriteFailure {W : Type 0} (own : Bool) (w : WriterModel W) (old new : W) (encoding : Option (List ℕ)) (front : List ℕ) (kind : ErrorKind) : Type 0 where
  -- the value has no encoding
  no_encoding : kind ≡ InvalidData → (w.sink new).faults ≡ (w.sink old).faults → encoding ≡ None → WriteFailure own w old new encoding front kind
  -- an allocation failed, of the value or of the writer
  no_memory : kind ≡ OutOfMemory → (w.sink new).faults ≡ (w.sink old).faults → own || w.allocates ≡ true → WriteFailure own w old new encoding front kind
  -- the writer is full, and bytes are left
  full : kind ≡ WriteZero → (w.sink new).faults ≡ (w.sink old).faults → IsTrue (w.sink new).full → ((bytes : List ℕ) → encoding ≡ Some bytes → length front < length bytes) → WriteFailure own w old new encoding front kind
  -- the writer failed
  writer_failed : CountedUp (w.sink old).faults (w.sink new).faults → WriteFailure own w old new encoding front kind

-- a call that was to write an encoding failed: a beginning of it was written
pub record NotWritten {W : Type 0} (own : Bool) (w : WriterModel W) (old new : W) (encoding : Option (List ℕ)) (kind : ErrorKind) : Type 0 where
  pub front : List ℕ
  pub wrote : w.wrote old new front
  pub interruptions : (w.sink new).interruptions ≤ (w.sink old).interruptions
  pub begins : (bytes : List ℕ) → encoding ≡ Some bytes → (rest : List ℕ) × (bytes ≡ front ++ rest)
  pub retried : kind ≢ Interrupted
  pub why : WriteFailure own w old new encoding front kind

-- the outcome of a call that is to write an encoding; `allocates` and `refuses` are what a codec says of its type
pub record WritesEncoding {W : Type 0} (w : WriterModel W) (old new : W) (allocates refuses : Bool) (encoding : Option (List ℕ)) (result : Result (Unit {0}) Error) : Type 0 where
  -- `Ok`: all of it was written
  pub ok : OnOk result (Written w old new encoding)
  -- `Err`: a beginning of it was written, and the kind of the error says why not more
  pub err : IfErr result (λ e. NotWritten allocates w old new encoding (error_kind e))
  -- a type that refuses all values does so before anything is written
  pub untouched : refuses ≡ true → Untouched old new result

-- the outcome of a call that is to write a value
abbrev pub Writes : {A W : Type 0} → Codec A → A → WriterModel W → W → W → Result (Unit {0}) Error → Type 0
Writes c v w old new result = WritesEncoding w old new c.encoding_allocates c.refuses (c.encoding v) result

-- ---- a buffer

-- the outcome of a call that may write an encoding over the beginning of a buffer, the room
pub record Puts (encoding : Option (List ℕ)) (old new : List ℕ) (result : Option ℕ) : Type 0 where
  -- the room keeps its length
  pub same : length new ≡ length old
  -- `Some(n)`: the encoding is the first n bytes of the room
  pub put : IfSome result (λ n. (n ≤ length new) × (encoding ≡ Some (take n new)))

-- ---- a length

-- the encoding is there and has n bytes
pub record IsLength (encoding : Option (List ℕ)) (n : ℕ) : Type 0 where
  pub bytes : List ℕ
  pub is : encoding ≡ Some bytes
  pub long : n ≡ length bytes

-- the outcome of a call that may tell how many bytes an encoding has
abbrev pub TellsLength : Option (List ℕ) → Option ℕ → Type 0
TellsLength encoding result = IfSome result (IsLength encoding)

-- ---- a vector

-- the value has no encoding, or an allocation failed
pub data WhyNotEncoded (encoding : Option (List ℕ)) (kind : ErrorKind) : Type 0 where
  no_encoding : kind ≡ InvalidData → encoding ≡ None → WhyNotEncoded encoding kind
  no_memory : kind ≡ OutOfMemory → WhyNotEncoded encoding kind

-- the outcome of a call that is to return an encoding as a vector
pub record Encodes (encoding : Option (List ℕ)) (result : Result (Vec ℕ Global) Error) : Type 0 where
  -- `Ok`: the bytes are the encoding
  pub ok : IfOk result (λ v. encoding ≡ Some v.items)
  -- `Err`: there is none, or an allocation failed
  pub err : IfErr result (λ e. WhyNotEncoded encoding (error_kind e))
