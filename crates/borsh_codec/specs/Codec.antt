-- What a type means as bytes, and the laws that each meaning keeps.
use Rattle.std.specs.Prelude.{◌≡◌, ℕ, Bool, true, false, List, [], ◌++◌, Option, Some, None}

-- the meaning of a type
pub record Codec (A : Type 0) : Type 1 where
  -- the bytes of a value, or none
  pub encoding : A → Option (List ℕ)
  -- the two are the same abstract value
  pub equivalent : A → A → Type 0
  -- the bytes decode to the value; the mode is true if keys must come in ascending order
  pub decodes : Bool → List ℕ → A → Type 0
  -- what is true of each decoded value though its bytes don't say it
  pub made : A → Type 0
  -- every encoding is the empty list; otherwise none is
  pub is_zero_width : Bool
  -- in strict mode the encodings alone decode
  pub is_canonical : Bool
  -- decoding a value may allocate
  pub decoding_allocates : Bool
  -- encoding a value may allocate, apart from the writer's own growth
  pub encoding_allocates : Bool
  -- no value has an encoding, and each call says so before it reads or writes anything
  pub refuses : Bool
  -- the text of a decoding error may have to be put together, which allocates
  pub texts_allocate : Bool

-- the bytes decode to some value
abbrev pub IsDecodable : {A : Type 0} → Codec A → Bool → List ℕ → Type 0
IsDecodable {A = A} c strict x = (a : A) × c.decodes strict x a

-- the laws of a meaning
pub record Lawful (A : Type 0) (c : Codec A) : Type 0 where
  -- equivalent values have one encoding
  pub equivalent_encoding : (a b : A) → c.equivalent a b → c.encoding a ≡ c.encoding b
  -- no accepted input is a proper beginning of another one
  pub prefix_free : (strict : Bool) (x z : List ℕ) (a b : A) → c.decodes strict x a → c.decodes strict (x ++ z) b → z ≡ []
  -- a zero-width type decodes from the empty list alone
  pub empty : (strict : Bool) (x : List ℕ) (a : A) → c.is_zero_width ≡ true → c.decodes strict x a → x ≡ []
  -- any other type never decodes from the empty list
  pub non_empty : (strict : Bool) (a : A) → c.is_zero_width ≡ false → c.decodes strict [] a → ⊥
  -- an encoding decodes to the value that was encoded
  pub round_trip : (strict : Bool) (a : A) (x : List ℕ) → c.encoding a ≡ Some x → c.decodes strict x a
  -- bytes decode to one value
  pub unambiguous : (strict : Bool) (x : List ℕ) (a b : A) → c.decodes strict x a → c.decodes strict x b → c.equivalent a b
  -- what was decoded can be encoded
  pub re_encodable : (strict : Bool) (x : List ℕ) (a : A) → c.decodes strict x a → (y : List ℕ) × (c.encoding a ≡ Some y)
  -- where the codec says so, each value is decoded from its encoding alone
  pub canonical : (x : List ℕ) (a : A) → c.is_canonical ≡ true → c.decodes true x a → c.encoding a ≡ Some x
  -- where the codec refuses all values, none has an encoding
  pub refused : (a : A) → c.refuses ≡ true → c.encoding a ≡ None
