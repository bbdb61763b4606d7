use Rattle.std.proofs.Common.{[], ◌∷◌, map}
use Rattle.borsh_source.specs.Forms.{entry}
use Rattle.borsh_source.proofs.Lists.{map_snoc}
use Rattle.borsh_source.proofs.Steps.{these_more}
use Rattle.borsh_source.proofs.adding.add_all.Goals as goal

pub loop-entry-preserved : goal.loop-entry-preserved
loop-entry-preserved c = these_more (map entry c.loop-entry.yielded) (entry c.in-Some.entry ∷ []) _ (map_snoc entry c.loop-entry.yielded c.in-Some.entry) c.loop-entry.invariant c.in_ok-add.ensures
