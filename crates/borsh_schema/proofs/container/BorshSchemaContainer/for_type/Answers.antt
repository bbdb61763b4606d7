use Rattle.borsh_definitions.proofs.Laws.Adding.{nothing_in}
use Rattle.borsh_schema.proofs.Laws.Containers.{describes_root}
use Rattle.borsh_schema.proofs.Containing.{container_made}
use Rattle.borsh_schema.proofs.container.BorshSchemaContainer.for_type.Goals as goal

pub returns-clause-ok : goal.returns-clause-ok
returns-clause-ok g c =
    container_made c.new-definitions.result c.add_definitions_recursively.new.map c.new-container.result (nothing_in c.new-definitions.result c.new-definitions.ensures.empty) c.in_ok-add_definitions_recursively.ensures.ok c.in_ok-declaration.ensures.ok c.new-container.ensures.declaration c.new-container.ensures.definitions

pub returns-clause-language : goal.returns-clause-language
returns-clause-language g c =
    let made = container_made c.new-definitions.result c.add_definitions_recursively.new.map c.new-container.result (nothing_in c.new-definitions.result c.new-definitions.ensures.empty) c.in_ok-add_definitions_recursively.ensures.ok c.in_ok-declaration.ensures.ok c.new-container.ensures.declaration c.new-container.ensures.definitions in
    describes_root g.T.BorshType.codec g.T.BorshSchema.name g.T.BorshSchema.parts c.new-container.result g.met.T.BorshSchema.describes made
