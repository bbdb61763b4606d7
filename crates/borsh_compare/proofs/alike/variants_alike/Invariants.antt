use Rattle.borsh_compare.specs.Alike.{HasVariantParts, VariantsAlike, variants_of}
use Rattle.borsh_compare.specs.Walks.{Paired}
use Rattle.borsh_compare.proofs.alike.variants_alike.Given as goal

abbrev pub invariant-loop-index : goal.invariant-loop-index
invariant-loop-index l = HasVariantParts l.both.old.now l.at.old l.variants.items → HasVariantParts l.both.new.now l.at.new l.others.items → VariantsAlike (Paired l.both.old.now l.both.new.now l.pairs.list.items) l.index (variants_of l.variants.items) (variants_of l.others.items)
