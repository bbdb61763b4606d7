-- Values behind their container.
use Rattle.std.specs.Prelude.{◌≡◌, ℕ, Bool, true, false, List, ◌++◌, Option, Some, String, codes, string_bytes}
use Rattle.std.specs.BTreeMap.{BTreeMap}
use Rattle.std.specs.Global.{Global}
use Rattle.borsh.specs.Reading.{Decoded}
use Rattle.borsh_definitions.specs.Codecs.{root_and_map}
use Rattle.borsh_definitions.specs.Described.{forms_in, nothing_defined}
use Rattle.borsh_definitions.specs.Own.{container_definitions}
use Rattle.borsh_io.specs.Stream.{ReaderState}
use Rattle.borsh_schema.specs.Joined.{IsUnion}
use Rattle.borsh_walks.specs.declared.definition.Definition.{Definition}
use Rattle.borsh_json.specs.declared.output.Layout.TheVariants.{Pretty}
use Rattle.borsh_tool_commands.specs.declared.values.Schema.{Schema}
use Rattle.borsh_tool_commands.specs.Json.{HasNoJson, IsJsonInOrder, IsJsonLine}

-- the bytes of a container
abbrev pub schema_encoding : Schema → Option (List ℕ)
schema_encoding s = root_and_map.encoding (s.root, s.definitions)

-- the bytes are the encoding of some container
abbrev pub IsContainer : List ℕ → Type 0
IsContainer bytes = (s : Schema) × (schema_encoding s ≡ Some bytes)

-- the encoding of the container was read, and no more of the bytes to come
abbrev pub ReadsSchema : ReaderState → ReaderState → Schema → Type 0
ReadsSchema old new s = Decoded (String Global × BTreeMap (String Global) Definition) root_and_map old new (s.root, s.definitions)

-- the encoding of a container, and then other bytes
pub record IsSent (s : Schema) (value bytes : List ℕ) : Type 0 where
  pub front : List ℕ
  pub is : schema_encoding s ≡ Some front
  pub whole : bytes ≡ front ++ value

-- what `encode` gives of a value: its bytes, behind those of its container if these are asked for
abbrev pub IsSentIf : Bool → Schema → List ℕ → List ℕ → Type 0
IsSentIf true s value out = IsSent s value out
IsSentIf false s value out = out ≡ value

-- the same of bytes that the text is JSON of
abbrev pub EncodesJson : Bool → Schema → List ℕ → List ℕ → Type 0
EncodesJson sent s text out = (value : List ℕ) × IsJsonInOrder s.definitions (string_bytes s.root) text value × IsSentIf sent s value out

-- the container of containers: the name of its root, and its definitions and no others
abbrev pub IsOwnSchema : Schema → Type 0
IsOwnSchema s = (string_bytes s.root ≡ codes "BorshSchemaContainer") × IsUnion nothing_defined container_definitions (forms_in s.definitions)

-- the JSON of a container's bytes by it, and a line feed
abbrev pub IsSchemaJson : List ℕ → List ℕ → Type 0
IsSchemaJson bytes out = (s : Schema) × IsOwnSchema s × IsJsonLine s.definitions (string_bytes s.root) Pretty bytes out

-- a container's bytes have none
abbrev pub HasNoSchemaJson : List ℕ → Type 0
HasNoSchemaJson bytes = (s : Schema) × IsOwnSchema s × HasNoJson s.definitions (string_bytes s.root) bytes
