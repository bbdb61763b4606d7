use Rattle.std.proofs.Common.{rules, ◌↔◌, IsTrue, subst}
use Rattle.std.specs.Ordering.{is_lt}
use Rattle.std.specs.List.Sorted.{IsStrictlySortedBy}
use Rattle.std.proofs.lemmas.List.Sorted.{answers_always}
use Rattle.borsh_codec.proofs.KeyOrder.{ascends_answer, map-same}
use Rattle.borsh_de.proofs.entries.keys_ascend.Goals as goal

pub returns : goal.returns
returns g c =
    subst (λ l. IsTrue c.is_sorted_by.result ↔ IsStrictlySortedBy g.K.Ord.cmp l) (map-same c.args.keys.now)
    (ascends_answer g.met.K.Ord.total (λ k. k) c.args.keys.now c.is_sorted_by.result
    (c.is_sorted_by.ensures.cases (λ x y. is_lt (g.K.Ord.cmp x y)) (answers_always _ _ _ (λ f a r k h. search rules))))
