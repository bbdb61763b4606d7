-- What a call that reads takes from its reader, and why it fails.
use Rattle.std.specs.Prelude.{◌≡◌, ◌≢◌, ℕ, Bool, true, false, List, [], ◌∷◌, ◌++◌, Some, IfSome, OnSome, ◌⊎◌, Option, Result, IfOk, IfErr, IsErrAnd, MatchOption, MatchResult, Vec}
use Rattle.std.specs.Global.{Global}
use Rattle.std.specs.Io.KnownBytes.{IsAtEnd}
use Rattle.borsh_io.specs.declared.error.Error.{Error}
use Rattle.borsh_io.specs.declared.error.ErrorKind.{ErrorKind}
use Rattle.borsh_io.specs.declared.error.ErrorKind.TheVariants.{InvalidData, OutOfMemory, Interrupted, UnexpectedEof}
use Rattle.borsh_io.specs.Errors.{error_kind}
use Rattle.borsh_io.specs.Stream.{ReaderState, CountedUp, Consumed, ConsumedSome}
use Rattle.borsh_codec.specs.Codec.{Codec, IsDecodable}
use Rattle.borsh_codec.specs.Shapes.{by_encoding, allocated_array}
use Rattle.borsh_codec.specs.Untouched.{Untouched}

-- a prefix of the bytes to come was taken, which has the property P; no failure was counted
pub record TakesPrefix (P : List ℕ → Type 0) (old new : ReaderState) : Type 0 where
  pub front : List ℕ
  pub takes : Consumed old new front
  pub holds : P front

-- no prefix of the bytes has P, if they are known
abbrev pub NoPrefix : (List ℕ → Type 0) → Option (List ℕ) → Type 0
NoPrefix P bytes = (front rest : List ℕ) → bytes ≡ Some (front ++ rest) → P front → ⊥

-- no prefix of what was taken has P, if the reader knows its bytes
abbrev pub NoneTaken : (List ℕ → Type 0) → ReaderState → ReaderState → Type 0
NoneTaken P old new = (taken left : List ℕ) → old.bytes ≡ Some (taken ++ left) → new.bytes ≡ Some left → NoPrefix P (Some taken)

-- the kind is `InvalidData`, or `OutOfMemory` where the text of the error has to be allocated
abbrev pub IsInvalidData : (text : Bool) → ErrorKind → Type 0
IsInvalidData text kind = (kind ≡ InvalidData) ⊎ ((kind ≡ OutOfMemory) × (text ≡ true))

-- why a call that needs a prefix with P failed with an error of this kind
pub data ReadFailure (memory text : Bool) (P : List ℕ → Type 0) (old new : ReaderState) (kind : ErrorKind) : Type 0 where
  -- the bytes to come are wrong
  malformed : IsInvalidData text kind → new.faults ≡ old.faults → NoPrefix P old.bytes → ReadFailure memory text P old new kind
  -- an allocation for the value failed
  no_memory : kind ≡ OutOfMemory → new.faults ≡ old.faults → memory ≡ true → ReadFailure memory text P old new kind
  -- the reader failed, and what it had given until then has no such prefix
  reader_failed : CountedUp old.faults new.faults → NoneTaken P old new → ReadFailure memory text P old new kind

-- a call that needs a prefix with P failed: a tail of the bytes to come is left
pub record ReadFails (memory text : Bool) (P : List ℕ → Type 0) (old new : ReaderState) (kind : ErrorKind) : Type 0 where
  pub tail : ConsumedSome old new
  pub retried : kind ≢ Interrupted
  pub why : ReadFailure memory text P old new kind

-- ---- a value

-- bytes that decode to the value were taken, and the rest is left; what isn't encoded is as decoding makes it
pub record Decoded (A : Type 0) (c : Codec A) (old new : ReaderState) (v : A) : Type 0 where
  pub took : TakesPrefix (λ x. c.decodes old.strict_order x v) old new
  pub made : c.made v

-- no value was decoded
pub record NotDecoded (A : Type 0) (c : Codec A) (old new : ReaderState) (kind : ErrorKind) : Type 0 where
  pub refused : ReadFails c.decoding_allocates c.texts_allocate (IsDecodable c old.strict_order) old new kind

-- the same where one byte, the tag, was taken before
pub record DecodedAfterTag (tag : ℕ) (A : Type 0) (c : Codec A) (old new : ReaderState) (v : A) : Type 0 where
  pub took : TakesPrefix (λ x. c.decodes old.strict_order (tag ∷ x) v) old new
  pub made : c.made v

pub record NotDecodedAfterTag (tag : ℕ) (A : Type 0) (c : Codec A) (old new : ReaderState) (kind : ErrorKind) : Type 0 where
  pub refused : ReadFails c.decoding_allocates c.texts_allocate (λ x. IsDecodable c old.strict_order (tag ∷ x)) old new kind

-- ---- all of the bytes

-- the bytes decode to no value, or an allocation failed
pub data WhyNotDecoded {A : Type 0} (c : Codec A) (strict : Bool) (xs : List ℕ) (kind : ErrorKind) : Type 0 where
  malformed : IsInvalidData c.texts_allocate kind → (IsDecodable c strict xs → ⊥) → WhyNotDecoded c strict xs kind
  no_memory : kind ≡ OutOfMemory → c.decoding_allocates ≡ true → WhyNotDecoded c strict xs kind

-- all of the bytes to come, where the reader knows them, decode to the value, and none is left
pub record DecodedWhole (A : Type 0) (c : Codec A) (old new : ReaderState) (v : A) : Type 0 where
  pub decoded : Decoded A c old new v
  pub whole : IfSome old.bytes (λ xs. c.decodes old.strict_order xs v)
  pub ended : OnSome old.bytes (IsAtEnd new.bytes)

-- bytes that decode to the value were taken, and then the reader failed with `UnexpectedEof`, which is taken for the end
pub record DecodedThenFailed (A : Type 0) (c : Codec A) (old new : ReaderState) (v : A) : Type 0 where
  pub mid : ReaderState
  pub decoded : Decoded A c old mid v
  pub tail : ConsumedSome mid new
  pub failed : CountedUp old.faults new.faults
  pub as_end : new.last_failure ≡ Some UnexpectedEof

abbrev pub DecodedAll : (A : Type 0) → Codec A → ReaderState → ReaderState → A → Type 0
DecodedAll A c old new v = DecodedWhole A c old new v ⊎ DecodedThenFailed A c old new v

-- the bytes decode to a value, and are all that is to come
pub record IsWholeInput (A : Type 0) (c : Codec A) (s : ReaderState) (x : List ℕ) : Type 0 where
  pub decodes : IsDecodable c s.strict_order x
  pub all : s.bytes ≡ Some x

-- a value was decoded, and then either bytes were left or the reader failed with another kind
pub record DecodedInPart (A : Type 0) (c : Codec A) (old new : ReaderState) (kind : ErrorKind) : Type 0 where
  pub value : A
  pub mid : ReaderState
  pub decoded : Decoded A c old mid value
  pub tail : ConsumedSome mid new
  pub invalid : kind ≡ InvalidData
  pub why : ((new.faults ≡ old.faults) × NoPrefix (IsWholeInput A c old) old.bytes) ⊎ (CountedUp old.faults new.faults × (new.last_failure ≢ Some UnexpectedEof))

-- all of the bytes to come were to be decoded as a value, and were not: none was decoded, or the bytes behind it were not seen to end
abbrev pub NotDecodedAll : (A : Type 0) → Codec A → ReaderState → ReaderState → ErrorKind → Type 0
NotDecodedAll A c old new kind = NotDecoded A c old new kind ⊎ DecodedInPart A c old new kind

-- ---- the outcome of a call

-- the outcome of a call that is to decode a value from a reader; `state` says what is known of a reader
pub record Decodes {A R : Type 0} (c : Codec A) (state : R → ReaderState) (old new : R) (result : Result A Error) : Type 0 where
  -- `Ok`: a prefix of the bytes to come decodes to the value, and the rest is left
  pub ok : IfOk result (λ v. Decoded A c (state old) (state new) v)
  -- `Err`: a tail of the bytes to come is left, and the kind of the error says why there is no value
  pub err : IfErr result (λ e. NotDecoded A c (state old) (state new) (error_kind e))
  -- a type that refuses all values does so before anything is read
  pub untouched : c.refuses ≡ true → Untouched old new result

-- the same for a call that returns another type: `view` takes what is returned to the value that was decoded
pub record DecodesAs {A B R : Type 0} (view : B → A) (c : Codec A) (state : R → ReaderState) (old new : R) (result : Result B Error) : Type 0 where
  -- `Ok`: a prefix of the bytes to come decodes to the view of what is returned, and the rest is left
  pub ok : IfOk result (λ v. Decoded A c (state old) (state new) (view v))
  -- `Err`: a tail of the bytes to come is left, and the kind of the error says why there is no value
  pub err : IfErr result (λ e. NotDecoded A c (state old) (state new) (error_kind e))
  -- a type that refuses all values does so before anything is read
  pub untouched : c.refuses ≡ true → Untouched old new result

-- the same for a list that is returned as a vector
abbrev pub DecodesVec : {A R : Type 0} → Codec (List A) → (R → ReaderState) → R → R → Result (Vec A Global) Error → Type 0
DecodesVec {A = A} c state old new result = DecodesAs (λ (v : Vec A Global). v.items) c state old new result

-- the same where one byte, the tag, was taken before
pub record DecodesAfterTag {A R : Type 0} (tag : ℕ) (c : Codec A) (state : R → ReaderState) (old new : R) (result : Result A Error) : Type 0 where
  -- `Ok`: the tag and a prefix of the bytes to come decode to the value, and the rest is left
  pub ok : IfOk result (λ v. DecodedAfterTag tag A c (state old) (state new) v)
  -- `Err`: a tail of the bytes to come is left, and the kind of the error says why there is no value
  pub err : IfErr result (λ e. NotDecodedAfterTag tag A c (state old) (state new) (error_kind e))

-- the outcome of a call that may decode `n` values at once, as a vector: with `None` it did nothing
pub record DecodesAtOnce {A R : Type 0} (n : ℕ) (c : Codec A) (state : R → ReaderState) (old new : R) (result : Result (Option (Vec A Global)) Error) : Type 0 where
  pub ok : IfOk result (λ o. MatchOption o (new ≡ old) (λ v. Decoded (List A) (allocated_array n c) (state old) (state new) v.items))
  pub err : IfErr result (λ e. NotDecoded (List A) (allocated_array n c) (state old) (state new) (error_kind e))

-- the value has an encoding, and all that decodes from it in strict mode is this value
pub record IsReEncodable {A : Type 0} (c : Codec A) (v : A) : Type 0 where
  pub bytes : List ℕ
  pub is : c.encoding v ≡ Some bytes
  pub decodes : c.decodes true bytes v
  pub once : (w : A) → c.decodes true bytes w → c.equivalent w v

-- the outcome of a call that is to decode all of the bytes
pub record DecodesAll {A : Type 0} (c : Codec A) (strict : Bool) (bytes : List ℕ) (result : Result A Error) : Type 0 where
  -- `Ok`: the bytes decode to the value
  pub ok : IfOk result (λ v. c.decodes strict bytes v)
  -- what isn't encoded is as decoding makes it
  pub made : IfOk result c.made
  -- `Err`: they decode to none, or the type's decoding allocates and an allocation failed
  pub err : IfErr result (λ e. WhyNotDecoded c strict bytes (error_kind e))
  -- where they decode to `v`, the result is equivalent to `v`, unless an allocation fails
  pub exact : (v : A) → c.decodes strict bytes v → MatchResult result (λ w. c.equivalent w v) (λ e. (error_kind e ≡ OutOfMemory) × (c.decoding_allocates ≡ true))
  -- in strict mode the bytes are the value's encoding, if the type is canonical
  pub canonical : strict ≡ true → c.is_canonical ≡ true → IfOk result (λ v. c.encoding v ≡ Some bytes)
  -- the value can be encoded, and its encoding decodes to it
  pub re_encodable : IfOk result (IsReEncodable c)
  -- a type that refuses all values returns `InvalidData`
  pub refused : c.refuses ≡ true → IsErrAnd result (λ e. error_kind e ≡ InvalidData)

-- the outcome of a call that is to decode all that a reader has
pub record DecodesReader {A R : Type 0} (c : Codec A) (state : R → ReaderState) (old new : R) (result : Result A Error) : Type 0 where
  -- `Ok`: the bytes to come decoded to the value, and none is left; or the reader failed with `UnexpectedEof` after the value
  pub ok : IfOk result (λ v. DecodedAll A c (state old) (state new) v)
  -- `Err`: a tail of the bytes to come is left, and the kind of the error says why there is no value
  pub err : IfErr result (λ e. NotDecodedAll A c (state old) (state new) (error_kind e))
  -- where the reader knows its bytes and counts no fault, the result is that of decoding all of these bytes
  pub whole : (bytes : List ℕ) → (state old).bytes ≡ Some bytes → (CountedUp (state old).faults (state new).faults → ⊥) → DecodesAll c (state old).strict_order bytes result
  -- a type that refuses all values does so before anything is read
  pub untouched : c.refuses ≡ true → Untouched old new result

-- one byte, whichever it is
abbrev pub any_byte : Codec ℕ
any_byte = by_encoding (λ b. Some (b ∷ [])) false
