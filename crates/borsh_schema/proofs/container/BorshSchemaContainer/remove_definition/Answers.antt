use Rattle.std.proofs.Common.{None}
use Rattle.std.proofs.lemmas.Map.Text.{btree_map_updates_text}
use Rattle.borsh_schema.specs.Containers.{map_of}
use Rattle.borsh_schema.proofs.container.BorshSchemaContainer.remove_definition.Goals as goal

pub returns-clause-others : goal.returns-clause-others
returns-clause-others c = btree_map_updates_text c.args.declaration.now (map_of c.args.self.now) c.remove.new.self None c.remove.ensures.updates
