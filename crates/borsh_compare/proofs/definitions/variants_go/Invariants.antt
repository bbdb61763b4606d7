use Rattle.std.proofs.Common.{◌-◌, length}
use Rattle.borsh_compare.specs.Corresponding.{Inside, Listing, Lists, VariantsCorrespond}
use Rattle.borsh_compare.specs.Together.{VariantsGo, unnamed}
use Rattle.borsh_compare.specs.Walks.{Keeps, Paired}
use Rattle.borsh_compare.proofs.definitions.variants_go.Given as goal

abbrev pub invariant-loop-discriminant : goal.invariant-loop-discriminant
invariant-loop-discriminant l = record {
  kept : Keeps l.fn.pairs.list.items l.pairs.list.items;
  go : VariantsGo (Paired l.both.old.now l.both.new.now l.pairs.list.items) l.index (unnamed l.variants.items) (unnamed l.others.items);
  stays : (S : Listing) → VariantsCorrespond (Lists S) (unnamed l.variants.items) (unnamed l.others.items) → Inside l.both.old.now l.both.new.now S l.fn.pairs.list.items → Inside l.both.old.now l.both.new.now S l.pairs.list.items;
}

abbrev pub decreases-loop-discriminant : goal.decreases-loop-discriminant
decreases-loop-discriminant l = length l.variants.items - l.index
