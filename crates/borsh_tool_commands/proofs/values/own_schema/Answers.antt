use Rattle.std.proofs.Common.{subst}
use Rattle.borsh_definitions.specs.Described.{DefinitionMap, forms_in}
use Rattle.borsh_definitions.specs.Own.{container_definitions}
use Rattle.borsh_schema.specs.Joined.{IsUnion}
use Rattle.borsh_definitions.proofs.Laws.Adding.{nothing_in}
use Rattle.borsh_tool_commands.proofs.values.own_schema.Goals as goal

pub returns-clause-ok : goal.returns-clause-ok
returns-clause-ok c = (
  c.in-Ok-declaration.ensures.ok,
  subst (λ (old : DefinitionMap). IsUnion old container_definitions (forms_in c.add_definitions_recursively.new.map)) (nothing_in c.new-definitions.result c.new-definitions.ensures.empty) c.in-Ok.ensures.ok,
)
