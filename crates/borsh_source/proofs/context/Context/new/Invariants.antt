use Rattle.borsh_source.specs.Views.{index_of}
use Rattle.borsh_source.proofs.Indexed.{Indexing}
use Rattle.borsh_source.proofs.context.Context.new.Given as goal

abbrev pub invariant-loop-at : goal.invariant-loop-at
invariant-loop-at l = Indexing l.source.items.items l.at (index_of l.index)
