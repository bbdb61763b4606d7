-- What bytes that are returned say of the value whose encoding they are.
use Rattle.std.specs.Prelude.{◌≡◌, ℕ, Bool, Some, Result, IfOk, IfErr, Vec}
use Rattle.std.specs.Global.{Global}
use Rattle.borsh_io.specs.declared.error.Error.{Error}
use Rattle.borsh_io.specs.Errors.{error_kind}
use Rattle.borsh_codec.specs.Codec.{Codec}
use Rattle.borsh_codec.specs.Writing.{WhyNotEncoded}

-- the outcome of a call that is to return a value's encoding as a vector
pub record EncodesValue (A : Type 0) (c : Codec A) (v : A) (result : Result (Vec ℕ Global) Error) : Type 0 where
  -- `Ok`: the bytes are the encoding
  pub ok : IfOk result (λ b. c.encoding v ≡ Some b.items)
  -- `Err`: there is none, or an allocation failed
  pub err : IfErr result (λ e. WhyNotEncoded (c.encoding v) (error_kind e))
  -- what was returned decodes to the value, whether keys have to be in order or not
  pub decodes : IfOk result (λ b. (strict : Bool) → c.decodes strict b.items v)
  -- a value with the same encoding is equivalent
  pub unique : IfOk result (λ b. (w : A) → c.encoding w ≡ Some b.items → c.equivalent w v)
