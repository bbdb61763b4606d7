use Rattle.std.proofs.Common.{ℕ, ◌<◌}
use Rattle.borsh_compare.specs.Walks.{PartGoes}
use Rattle.borsh_compare.proofs.alike.parts_paired.Given as goal

abbrev pub invariant-loop-index : goal.invariant-loop-index
invariant-loop-index l = (a : ℕ) → a < l.index → PartGoes l.both.old.now l.both.new.now l.pairs.list.items l.at.old l.at.new a a
