-- Rust items of a container.
use Rattle.std.specs.Prelude.{◌≡◌, ℕ, List, Option, Some, string_bytes}
use Rattle.borsh_definitions.specs.Codecs.{root_and_map}
use Rattle.borsh_definitions.specs.Described.{forms_in}
use Rattle.borsh_source.specs.Container.{IsMeaning}
use Rattle.borsh_source.specs.declared.compiling.Compiled.{Compiled}
use Rattle.borsh_texts.specs.declared.printing.Items.{Items}

-- the bytes of a container that was compiled
abbrev pub compiled_encoding : Compiled → Option (List ℕ)
compiled_encoding c = root_and_map.encoding (c.declaration, c.definitions)

-- the tree of the items means the container of these bytes
abbrev pub AreItems : List ℕ → Items → Type 0
AreItems bytes i = IsMeaning i.tree i.root (string_bytes i.compiled.declaration) (forms_in i.compiled.definitions) × (compiled_encoding i.compiled ≡ Some bytes)
