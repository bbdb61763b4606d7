use Rattle.std.proofs.Common.{[], ◌∷◌}
use Rattle.borsh_plan.specs.Names.{name_at}
use Rattle.borsh_plan.specs.Plan.{definitions_of, names_of}
use Rattle.borsh_compare.specs.Together.{GoUntil}
use Rattle.borsh_compare.specs.Walks.{Keeps, Paired, names_from}
use Rattle.borsh_compare.proofs.through.go_through.Given as goal

abbrev pub invariant-loop : goal.invariant-loop
invariant-loop l = record {
  kept : Keeps l.fn.pairs.list.items l.pairs.list.items;
  go : GoUntil (definitions_of l.both.old.now) (definitions_of l.both.new.now) (Paired l.both.old.now l.both.new.now l.pairs.list.items) (name_at (names_of l.both.old.now) l.owners.old ∷ []) (name_at (names_of l.both.new.now) l.owners.new ∷ []) (names_from l.both.old.now l.old_names.items) (names_from l.both.new.now l.new_names.items);
}
