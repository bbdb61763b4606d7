use Rattle.std.proofs.Common.{map}
use Rattle.borsh_source.specs.Meaning.{parameter_names}
use Rattle.borsh_source.specs.Views.{stands}
use Rattle.borsh_source.proofs.FieldLists.{names_given-append}
use Rattle.borsh_source.proofs.Lists.{grow, item_at}
use Rattle.borsh_source.proofs.types.names_given.Goals as goal

pub loop-given-preserved : goal.loop-given-preserved
loop-given-preserved c = grow (λ gs. parameter_names (map stands gs)) names_given-append c.args.given.now c.loop-given.given-index c.given-item.result _ _ (item_at _ _ _ c.loop-given-test.true c.given-item.is) c.loop-given.invariant c.in_ok-push_given.ensures
