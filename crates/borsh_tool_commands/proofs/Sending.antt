-- What was read from the front of bytes.
use Rattle.std.proofs.Common.{ℕ, List, refl, String}
use Rattle.std.specs.Global.{Global}
use Rattle.std.specs.BTreeMap.{BTreeMap}
use Rattle.borsh.specs.Stream.{slice_state}
use Rattle.borsh.specs.Reading.{Decoded}
use Rattle.borsh_definitions.specs.Codecs.{root_and_map}
use Rattle.borsh_definitions.proofs.Laws.Own.{root_and_map-lawful}
use Rattle.borsh_walks.specs.declared.definition.Definition.{Definition}
use Rattle.borsh_tool_commands.specs.declared.values.Schema.{Schema}
use Rattle.borsh_tool_commands.specs.Sent.{IsSent}

pub sent : (s : Schema) (value bytes : List ℕ) → Decoded (String Global × BTreeMap (String Global) Definition) root_and_map (slice_state bytes) (slice_state value) (s.root, s.definitions) → IsSent s value bytes
sent s value bytes d =
    let t = d.took in
    record { front = t.front; is = root_and_map-lawful.canonical t.front (s.root, s.definitions) refl t.holds; whole = t.takes.bytes }
