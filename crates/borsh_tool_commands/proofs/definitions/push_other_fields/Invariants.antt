-- What comes before the index was added.
use Rattle.std.proofs.Common.{◌≡◌, ◌++◌, codes, flat_map, take}
use Rattle.borsh_tool_commands.specs.Definitions.{field_text}
use Rattle.borsh_tool_commands.proofs.definitions.push_other_fields.Given as goal

abbrev pub invariant-loop-field : goal.invariant-loop-field
invariant-loop-field l = l.out.text.items ≡ l.fn.out.text.items ++ flat_map (λ f. codes ", " ++ field_text f) (take l.field-index l.fields)
