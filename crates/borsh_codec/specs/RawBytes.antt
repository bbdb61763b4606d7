-- What a call that takes bytes as they are takes from its reader, and why it is refused.
use Rattle.std.specs.Prelude.{◌≡◌, ℕ, ◌<◌, false, List, length, get_or, Result, OnOk, IfOk, IfErr}
use Rattle.borsh_io.specs.declared.error.Error.{Error}
use Rattle.borsh_io.specs.Errors.{error_kind}
use Rattle.borsh_io.specs.Stream.{ReaderState}
use Rattle.borsh_codec.specs.Reading.{TakesPrefix, ReadFails}

-- the outcome of a call that is to take the next n bytes; `state` says what is known of a reader
pub record TakesBytes {R : Type 0} (n : ℕ) (state : R → ReaderState) (old new : R) (result : Result (List ℕ) Error) : Type 0 where
  -- `Ok`: these bytes were taken, and the rest is left
  pub ok : IfOk result (λ bytes. TakesPrefix (λ x. x ≡ bytes) (state old) (state new))
  -- `Err`: a tail of the bytes to come is left; there are fewer than n, or the reader failed
  pub err : IfErr result (λ e. ReadFails false false (λ x. length x ≡ n) (state old) (state new) (error_kind e))

-- the same where the bytes are put over those of a buffer
pub record FillsBuffer {R : Type 0} (state : R → ReaderState) (old new : R) (before after : List ℕ) (result : Result (Unit {0}) Error) : Type 0 where
  -- `Ok`: all of the buffer was taken, and the rest is left
  pub ok : OnOk result (TakesPrefix (λ x. x ≡ after) (state old) (state new))
  -- in either case the buffer has bytes
  pub fits : (i : ℕ) → get_or after i 0 < 256
  -- `Err`: a tail of the bytes to come is left; there are fewer than the buffer has, or the reader failed
  pub err : IfErr result (λ e. ReadFails false false (λ x. length x ≡ length before) (state old) (state new) (error_kind e))
