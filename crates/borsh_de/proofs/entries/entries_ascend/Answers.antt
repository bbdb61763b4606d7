use Rattle.std.proofs.Common.{rules}
use Rattle.std.specs.Ordering.{is_lt}
use Rattle.std.proofs.lemmas.List.Sorted.{answers_always}
use Rattle.borsh_codec.proofs.KeyOrder.{ascends_answer}
use Rattle.borsh_de.proofs.entries.entries_ascend.Goals as goal

pub returns : goal.returns
returns g c =
    ascends_answer g.met.K.Ord.total (λ e. e.0) c.args.entries.now c.is_sorted_by.result
    (c.is_sorted_by.ensures.cases (λ x y. is_lt (g.K.Ord.cmp x.0 y.0)) (answers_always _ _ _ (λ f a r k h. search rules)))
