-- The bytes of a number, of either sign.
use Rattle.std.specs.Prelude.{◌≡◌, ℕ, ℤ, List, Result, IfOk, IfErr}
use Rattle.borsh_io.specs.declared.error.Error.{Error}
use Rattle.borsh_io.specs.Errors.{error_kind}
use Rattle.borsh_io.specs.Stream.{ReaderState}
use Rattle.borsh_codec.specs.Shapes.{unsigned, signed}
use Rattle.borsh_codec.specs.Reading.{TakesPrefix, NotDecoded}

-- the outcome of a call that is to take the n bytes of a number
pub record TakesNumber {R : Type 0} (n : ℕ) (state : R → ReaderState) (old new : R) (result : Result (List ℕ) Error) : Type 0 where
  pub ok : IfOk result (λ bytes. TakesPrefix (λ x. x ≡ bytes) (state old) (state new))
  pub unsigned_err : IfErr result (λ e. NotDecoded ℕ (unsigned n) (state old) (state new) (error_kind e))
  pub signed_err : IfErr result (λ e. NotDecoded ℤ (signed n) (state old) (state new) (error_kind e))
