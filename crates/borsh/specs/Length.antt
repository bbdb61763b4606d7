-- The length of an encoding.
use Rattle.std.specs.Prelude.{◌≡◌, ℕ, ◌^◌, ◌≤◌, Bool, true, List, length, Option, Some, None, Result, IfOk, IfErr}
use Rattle.borsh_io.specs.declared.error.Error.{Error}
use Rattle.borsh_io.specs.declared.error.ErrorKind.{ErrorKind}
use Rattle.borsh_io.specs.declared.error.ErrorKind.TheVariants.{InvalidData, OutOfMemory}
use Rattle.borsh_io.specs.Errors.{error_kind}
use Rattle.borsh_codec.specs.Writing.{IsLength}

-- there is no encoding, an allocation failed, or the length doesn't fit in a `usize`
pub data WhyNoLength (own : Bool) (encoding : Option (List ℕ)) (kind : ErrorKind) : Type 0 where
  no_encoding : kind ≡ InvalidData → encoding ≡ None → WhyNoLength own encoding kind
  no_memory : kind ≡ OutOfMemory → own ≡ true → WhyNoLength own encoding kind
  too_long : kind ≡ OutOfMemory → (bytes : List ℕ) → encoding ≡ Some bytes → 2 ^ 64 ≤ length bytes → WhyNoLength own encoding kind

-- the outcome of a call that is to return the length of an encoding
pub record AnswersLength (own : Bool) (encoding : Option (List ℕ)) (result : Result ℕ Error) : Type 0 where
  -- `Ok`: the length of the encoding
  pub ok : IfOk result (IsLength encoding)
  -- `Err`: there is no encoding, an allocation failed, or the length doesn't fit in a `usize`
  pub err : IfErr result (λ e. WhyNoLength own encoding (error_kind e))
