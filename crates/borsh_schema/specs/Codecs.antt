-- What a container means as bytes: its root and its map.
use Rattle.std.specs.Prelude.{String}
use Rattle.std.specs.Global.{Global}
use Rattle.std.specs.BTreeMap.{BTreeMap}
use Rattle.borsh_codec.specs.Codec.{Codec}
use Rattle.borsh_codec.specs.Shapes.{contramap}
use Rattle.borsh_walks.specs.declared.definition.Definition.{Definition}
use Rattle.borsh_definitions.specs.Codecs.{root_and_map}
use Rattle.borsh_schema.specs.declared.container.BorshSchemaContainer.{BorshSchemaContainer}

-- the root and the map
abbrev pub container_pair : BorshSchemaContainer → String Global × BTreeMap (String Global) Definition
container_pair c = (c.declaration, c.definitions)

abbrev pub container : Codec BorshSchemaContainer
container = contramap container_pair root_and_map
