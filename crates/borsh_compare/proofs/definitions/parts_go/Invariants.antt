use Rattle.std.proofs.Common.{ℕ, ◌<◌}
use Rattle.borsh_plan.specs.Names.{parts_in, shape_at}
use Rattle.borsh_plan.specs.Plan.{names_of}
use Rattle.borsh_compare.specs.Corresponding.{Inside, Listing, Lists}
use Rattle.borsh_compare.specs.Together.{NamesGo}
use Rattle.borsh_compare.specs.Walks.{Keeps, PartGoes}
use Rattle.borsh_compare.proofs.definitions.parts_go.Given as goal

abbrev pub invariant-loop-index : goal.invariant-loop-index
invariant-loop-index l = record {
  kept : Keeps l.fn.pairs.list.items l.pairs.list.items;
  go : (a : ℕ) → a < l.index → PartGoes l.both.old.now l.both.new.now l.pairs.list.items l.owners.old l.owners.new a a;
  stays : (S : Listing) → NamesGo (Lists S) (parts_in (shape_at (names_of l.both.old.now) l.owners.old)) (parts_in (shape_at (names_of l.both.new.now) l.owners.new)) → Inside l.both.old.now l.both.new.now S l.fn.pairs.list.items → Inside l.both.old.now l.both.new.now S l.pairs.list.items;
}
