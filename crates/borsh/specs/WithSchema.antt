-- Values that are sent behind the container of their type.
use Rattle.std.specs.Prelude.{◌≡◌, ℕ, true, List, ◌++◌, Option, Some, None, MatchResult, Result, IfOk, IfErr, Vec}
use Rattle.std.specs.Global.{Global}
use Rattle.std.specs.String.{string_cmp}
use Rattle.std.specs.BTreeMap.{IsOrdered}
use Rattle.borsh_io.specs.declared.error.Error.{Error}
use Rattle.borsh_io.specs.Errors.{error_kind}
use Rattle.borsh_io.specs.declared.error.ErrorKind.{ErrorKind}
use Rattle.borsh_io.specs.declared.error.ErrorKind.TheVariants.{InvalidData, OutOfMemory}
use Rattle.borsh_codec.specs.Codec.{Codec, IsDecodable}
use Rattle.borsh_codec.specs.Shapes.{pair}
use Rattle.borsh_codec.specs.Reading.{IsInvalidData}
use Rattle.borsh_schema.specs.declared.container.BorshSchemaContainer.{BorshSchemaContainer}
use Rattle.borsh_schema.specs.declared.definitions.SchemaBuildError.{SchemaBuildError}
use Rattle.borsh_schema.specs.declared.definitions.SchemaBuildError.TheVariants.{Redefinition, OutOfMemory as NoMemory}
use Rattle.borsh_schema.specs.Codecs.{container}
use Rattle.borsh_schema.specs.Containers.{IsContainerOf, map_of}
use Rattle.borsh_definitions.specs.Described.{DefinitionTree, nothing_defined}
use Rattle.borsh_schema.specs.Joined.{Conflicts}

-- the bytes are the encoding of the type's container, and then `rest`
pub record FollowsSchema (name : List ℕ) (parts : DefinitionTree) (rest bytes : List ℕ) : Type 0 where
  pub own : BorshSchemaContainer
  pub is : IsContainerOf name parts own
  pub front : List ℕ
  pub encoded : container.encoding own ≡ Some front
  pub whole : bytes ≡ front ++ rest

-- the bytes are the encoding of the type's container, and then that of the value
pub record IsWithSchema (name : List ℕ) (parts : DefinitionTree) (encoding : Option (List ℕ)) (bytes : List ℕ) : Type 0 where
  pub value : List ℕ
  pub is : encoding ≡ Some value
  pub sent : FollowsSchema name parts value bytes

-- the bytes are the encoding of the type's container, and then decode to the value
pub record IsReadWithSchema {A : Type 0} (name : List ℕ) (parts : DefinitionTree) (c : Codec A) (bytes : List ℕ) (v : A) : Type 0 where
  pub rest : List ℕ
  pub decodes : c.decodes true rest v
  pub sent : FollowsSchema name parts rest bytes

-- a name of the type has two definitions
pub record HasClash (parts : DefinitionTree) : Type 0 where
  pub name : List ℕ
  pub clash : Conflicts nothing_defined parts name

-- the type's container, its definitions by ascending name, has no encoding
pub record HasNoEncoding (name : List ℕ) (parts : DefinitionTree) : Type 0 where
  pub own : BorshSchemaContainer
  pub is : IsContainerOf name parts own
  pub ascending : IsOrdered string_cmp (map_of own)
  pub none : container.encoding own ≡ None

-- why container and value aren't written
pub data WhyNotWritten (name : List ℕ) (parts : DefinitionTree) (encoding : Option (List ℕ)) (kind : ErrorKind) : Type 0 where
  clashes : IsInvalidData true kind → HasClash parts → WhyNotWritten name parts encoding kind
  no_container : kind ≡ InvalidData → HasNoEncoding name parts → WhyNotWritten name parts encoding kind
  no_encoding : kind ≡ InvalidData → encoding ≡ None → WhyNotWritten name parts encoding kind
  no_memory : kind ≡ OutOfMemory → WhyNotWritten name parts encoding kind

-- the outcome of a call that is to write a type's container and a value behind it
pub record EncodesWithSchema (name : List ℕ) (parts : DefinitionTree) (encoding : Option (List ℕ)) (result : Result (Vec ℕ Global) Error) : Type 0 where
  -- `Ok`: the encoding of the type's container, and then that of the value
  pub ok : IfOk result (λ v. IsWithSchema name parts encoding v.items)
  -- `Err`: the kind of the error says why there are no such bytes
  pub err : IfErr result (λ e. WhyNotWritten name parts encoding (error_kind e))
  -- where there are such bytes they are returned, unless an allocation fails
  pub exact : (x : List ℕ) → IsWithSchema name parts encoding x → MatchResult result (λ v. v.items ≡ x) (λ e. error_kind e ≡ OutOfMemory)

-- the bytes decode to a container and a value, and the container isn't the type's
pub record IsOtherSchema {A : Type 0} (name : List ℕ) (parts : DefinitionTree) (c : Codec A) (bytes : List ℕ) : Type 0 where
  pub sent : BorshSchemaContainer
  pub front : List ℕ
  pub rest : List ℕ
  pub encoded : container.encoding sent ≡ Some front
  pub whole : bytes ≡ front ++ rest
  pub value : IsDecodable c true rest
  pub other : IsContainerOf name parts sent → ⊥

-- why container and value aren't read; that the container is another one is a reason only for bytes that decode to a container and a value
pub data WhyNotRead {A : Type 0} (name : List ℕ) (parts : DefinitionTree) (c : Codec A) (bytes : List ℕ) (kind : ErrorKind) : Type 0 where
  malformed : IsInvalidData (pair container c).texts_allocate kind → (IsDecodable (pair container c) true bytes → ⊥) → WhyNotRead name parts c bytes kind
  other_schema : kind ≡ InvalidData → IsOtherSchema name parts c bytes → WhyNotRead name parts c bytes kind
  clashes : IsInvalidData true kind → HasClash parts → IsDecodable (pair container c) true bytes → WhyNotRead name parts c bytes kind
  no_memory : kind ≡ OutOfMemory → WhyNotRead name parts c bytes kind

-- the outcome of a call that is to read a type's container and a value behind it
pub record DecodesWithSchema {A : Type 0} (name : List ℕ) (parts : DefinitionTree) (c : Codec A) (bytes : List ℕ) (result : Result A Error) : Type 0 where
  -- `Ok`: the bytes are the encoding of the type's container, and then decode to the value
  pub ok : IfOk result (λ v. IsReadWithSchema name parts c bytes v)
  -- what isn't encoded is as decoding makes it
  pub made : IfOk result c.made
  -- `Err`: the kind of the error says why there is no such value
  pub err : IfErr result (λ e. WhyNotRead name parts c bytes (error_kind e))
  -- where there is such a value, an equivalent one is returned, unless an allocation fails
  pub exact : (v : A) → IsReadWithSchema name parts c bytes v → MatchResult result (λ w. c.equivalent w v) (λ e. error_kind e ≡ OutOfMemory)

-- ---- the steps

-- the kind of a refusal to build a container
abbrev pub IsBuildKind : SchemaBuildError → ErrorKind → Type 0
IsBuildKind (Redefinition m) kind = IsInvalidData true kind
IsBuildKind NoMemory kind = kind ≡ OutOfMemory

-- why the type's container isn't there
pub data WhyNoContainer (parts : DefinitionTree) (kind : ErrorKind) : Type 0 where
  clashing : IsInvalidData true kind → HasClash parts → WhyNoContainer parts kind
  memory : kind ≡ OutOfMemory → WhyNoContainer parts kind

-- two values were read, the first from its encoding
pub record IsPairRead {A B : Type 0} (a : Codec A) (b : Codec B) (bytes : List ℕ) (v : A × B) : Type 0 where
  pub front : List ℕ
  pub rest : List ℕ
  pub whole : bytes ≡ front ++ rest
  pub first : a.encoding v.0 ≡ Some front
  pub second : b.decodes true rest v.1
