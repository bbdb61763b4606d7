-- Types of which every so many bytes are an encoding: numbers, and what is made of them.
use Rattle.std.specs.Prelude.{◌≡◌, ℕ, ◌<◌, Bool, true, false, List, ◌++◌, length, get_or, Option, IfSome, MatchOption, Result, OnOk, IfErr}
use Rattle.borsh_io.specs.declared.error.Error.{Error}
use Rattle.borsh_io.specs.Errors.{error_kind}
use Rattle.borsh_io.specs.Stream.{ReaderState}
use Rattle.borsh_codec.specs.Codec.{Codec, IsDecodable}
use Rattle.borsh_codec.specs.Shapes.{DecodesEach, array}
use Rattle.borsh_codec.specs.Reading.{Decoded, NotDecoded}

-- each of the numbers is a byte
abbrev pub AreBytes : List ℕ → Type 0
AreBytes x = (i : ℕ) → get_or x i 0 < 256

-- every n bytes decode to a value, nothing else does, and decoding doesn't allocate
pub record IsFixedWidth {A : Type 0} (c : Codec A) (n : ℕ) : Type 0 where
  pub all : (x : List ℕ) → AreBytes x → length x ≡ n → IsDecodable c true x
  pub only : (strict : Bool) (x : List ℕ) (v : A) → c.decodes strict x v → length x ≡ n
  pub either_mode : (x : List ℕ) (v : A) → c.decodes true x v → c.decodes false x v
  pub without_memory : c.decoding_allocates ≡ false
  -- all is encoded
  pub made : (v : A) → c.made v

-- the outcome of a call that is to decode a value of a type of fixed width from all of the bytes
pub record GetsValue {A : Type 0} (c : Codec A) (bytes : List ℕ) (result : Option A) : Type 0 where
  -- `Some`: the bytes decode to the value; `None`: the type isn't of this width
  pub value : MatchOption result (IsFixedWidth c (length bytes) → ⊥) (λ v. c.decodes true bytes v)
  -- what isn't encoded is as decoding makes it
  pub made : IfSome result c.made

-- the list grew by the values that the bytes decode to, one after another
pub record AppendsDecoded {A : Type 0} (c : Codec A) (bytes : List ℕ) (before after : List A) : Type 0 where
  pub more : List A
  pub items : after ≡ before ++ more
  pub decodes : DecodesEach (c.decodes true) bytes more

-- of a rest of bytes the first n were taken, which decode to the value; the width n is still the same
pub record TakesPiece {A : Type 0} (c : Codec A) (n : ℕ) (old : List ℕ) (m : ℕ) (new : List ℕ) (v : A) : Type 0 where
  pub piece : List ℕ
  pub whole : old ≡ piece ++ new
  pub long : length piece ≡ n
  pub same_width : m ≡ n
  pub decodes : c.decodes true piece v
  pub made : c.made v

-- the outcome of a call that is to decode values over those of a slice; `state` says what is known of a reader
pub record DecodesOver {A R : Type 0} (c : Codec A) (state : R → ReaderState) (old new : R) (before after : List A) (result : Result (Unit {0}) Error) : Type 0 where
  -- `Ok`: a prefix of the bytes to come decodes to the values, as many as the slice has, and the rest is left
  pub ok : OnOk result (Decoded (List A) (array (length before) c) (state old) (state new) after)
  -- `Err`: a tail of the bytes to come is left, and the kind of the error says why there are no values
  pub err : IfErr result (λ e. NotDecoded (List A) (array (length before) c) (state old) (state new) (error_kind e))
