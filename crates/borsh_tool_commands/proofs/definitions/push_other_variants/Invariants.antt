-- What comes before the index was added.
use Rattle.std.proofs.Common.{◌≡◌, ◌++◌, codes, flat_map, take}
use Rattle.borsh_tool_commands.specs.Definitions.{variant_text}
use Rattle.borsh_tool_commands.proofs.definitions.push_other_variants.Given as goal

abbrev pub invariant-loop-variant : goal.invariant-loop-variant
invariant-loop-variant l = l.out.text.items ≡ l.fn.out.text.items ++ flat_map (λ v. codes ", " ++ variant_text v) (take l.variant-index l.variants)
