use Rattle.std.proofs.Common.{rules, refl}
use Rattle.std.specs.Map.Iter.{deref_pair}
use Rattle.std.proofs.lemmas.Iterator.{YieldsList-from_map_by}
use Rattle.std.proofs.lemmas.Iterator.Consumers.{map_from_collect, YieldsList-at, YieldsList-from_rest}
use Rattle.std.proofs.lemmas.Result.{IfOk-at_ok}
use Rattle.borsh_walks.specs.Places.{AreEntries}
use Rattle.borsh_walks.proofs.PlaceLaws.{ascend}
use Rattle.borsh_walks.proofs.places.Places.new.Goals as goal

pub returns : goal.returns
returns c =
    let l : AreEntries c.args.map.now.entries c.in_ok-entries.entries.items = IfOk-at_ok _ c.in_ok-entries.was (map_from_collect _ c.collect.ensures.ran (YieldsList-from_map_by _ deref_pair _ (YieldsList-at c.map.ensures.source (YieldsList-from_rest _ c.iter.ensures.rest)) c.map.ensures.closure (λ x r q k. search rules))) in
    (refl, (l, ascend _ _ l c.iter.ensures.ordered))
