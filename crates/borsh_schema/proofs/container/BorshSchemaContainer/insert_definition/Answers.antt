use Rattle.std.proofs.Common.{Some, string_bytes}
use Rattle.std.proofs.lemmas.Map.Text.{btree_map_updates_text}
use Rattle.borsh_schema.specs.Containers.{map_of}
use Rattle.borsh_schema.proofs.container.BorshSchemaContainer.insert_definition.Goals as goal

pub returns-clause-ok : goal.returns-clause-ok
returns-clause-ok c = btree_map_updates_text (string_bytes c.args.declaration) (map_of c.args.self.now) c.insert.new.self (Some c.args.definition) c.in_ok-insert.ensures.updates
