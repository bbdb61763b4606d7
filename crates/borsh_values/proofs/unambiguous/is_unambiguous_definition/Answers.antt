use Rattle.borsh_values.proofs.unambiguous.is_unambiguous_definition.Goals as goal

pub returns-in-Enum : goal.returns-in-Enum
returns-in-Enum c = rw c.in-Enum.is c.has_distinct_tags.ensures
