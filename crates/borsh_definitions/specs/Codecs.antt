-- What a root and a map of definitions mean as bytes: the root's name, and then the definitions by ascending name.
use Rattle.std.specs.Prelude.{String}
use Rattle.std.specs.Global.{Global}
use Rattle.std.specs.String.{string_cmp}
use Rattle.std.specs.BTreeMap.{BTreeMap}
use Rattle.borsh_codec.specs.Codec.{Codec}
use Rattle.borsh_codec.specs.Shapes.{contramap, pair}
use Rattle.borsh_codec.specs.Maps.{btree_map}
use Rattle.borsh_walks.specs.Codecs.{name, definition}
use Rattle.borsh_walks.specs.declared.definition.Definition.{Definition}

-- a map of definitions
abbrev pub definition_map : Codec (BTreeMap (String Global) Definition)
definition_map = contramap (λ m. m.entries) (btree_map string_cmp name definition)

-- a root and a map
abbrev pub root_and_map : Codec (String Global × BTreeMap (String Global) Definition)
root_and_map = pair name definition_map
