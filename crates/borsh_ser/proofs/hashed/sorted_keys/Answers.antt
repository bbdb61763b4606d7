use Rattle.std.proofs.Common.{rules, ◌≡◌, map}
use Rattle.borsh_codec.proofs.SortedRefs.{sorted_key_refs}
use Rattle.borsh_ser.proofs.hashed.sorted_keys.Goals as goal

pub returns : goal.returns
returns g c =
    let refs : map (λ r. r.now) c.in_ok-all.all.items ≡ c.args.set.now.keys = search rules in
    sorted_key_refs g.met.K.Ord.total g.K.PartialEq.eq g.met.K.Ord.matches_eq (λ r. r.now) c.args.set.now.keys c.in_ok-all.all.items c.sort_unstable.new.self.items
    c.iter.ensures.unique refs c.sort_unstable.ensures.permutation c.sort_unstable.ensures.sorted
