use Rattle.std.proofs.Common.{take}
use Rattle.borsh_source.specs.Meaning.{HaveNone}
use Rattle.borsh_source.proofs.items.has_discriminant.Given as goal

abbrev pub invariant-loop-variant : goal.invariant-loop-variant
invariant-loop-variant l = HaveNone (take l.variant-index l.variants)
