-- What a call leaves as it was.
use Rattle.std.specs.Prelude.{◌≡◌, Result, IsErrAnd}
use Rattle.borsh_io.specs.declared.error.Error.{Error}
use Rattle.borsh_io.specs.declared.error.ErrorKind.TheVariants.{InvalidData}
use Rattle.borsh_io.specs.Errors.{error_kind}

-- the call fails with `InvalidData`, and its reader or writer is as it was
pub record Untouched {T S : Type 0} (old new : S) (result : Result T Error) : Type 0 where
  pub kind : IsErrAnd result (λ e. error_kind e ≡ InvalidData)
  pub still : new ≡ old
