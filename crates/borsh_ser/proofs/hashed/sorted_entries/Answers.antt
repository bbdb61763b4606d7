use Rattle.std.proofs.Common.{rules, ◌≡◌, map}
use Rattle.std.specs.Ordering.{is_lt}
use Rattle.std.specs.Map.Iter.{deref_pair}
use Rattle.std.proofs.lemmas.List.Sorted.{answers_always, ranks_by}
use Rattle.borsh_codec.proofs.SortedRefs.{sorted_refs}
use Rattle.borsh_ser.proofs.hashed.sorted_entries.Goals as goal

pub returns : goal.returns
returns g c =
    let refs : map deref_pair c.in_ok-all.all.items ≡ c.args.table.now.entries = search rules in
    sorted_refs g.met.K.Ord.total g.K.PartialEq.eq g.met.K.Ord.matches_eq deref_pair c.args.table.now.entries c.in_ok-all.all.items c.sort_unstable_by.new.self.items
    c.iter.ensures.unique refs c.sort_unstable_by.ensures.permutation
    (c.sort_unstable_by.ensures.sorted (λ x y. is_lt (g.K.Ord.cmp x.0.now y.0.now)) (ranks_by g.met.K.Ord.total (λ x. x.0.now)) (answers_always _ _ _ (λ f a r k h. search rules)))
